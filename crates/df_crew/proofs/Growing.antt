-- A turn appends entries and changes nothing else.
use Rattle.df_crew.proofs.Names.{◌≡◌, ℕ, zero, suc, ◌+◌, ◌≤◌, List, [], ◌∷◌, ◌++◌, Bool, true, false, refl, sym, ◌∙◌, ap, subst, cond, Option, Some, None, length, arith, length-append, booked, CrewState, want_in, asked, asked_by, is_local_want, turn_of, turned, TurnState, most_local, State, appended, has_delivery_in, IsMore, Brain, Calls, Wait, Want, RootStart, Call, Entry, UnitName}

append_again : {A : Type 0} (xs ys zs : List A) → (xs ++ ys) ++ zs ≡ xs ++ (ys ++ zs)
append_again [] ys zs = refl
append_again (x ∷ xs) ys zs = ap (λ (l : List _). x ∷ l) (append_again xs ys zs)

none_more : {A : Type 0} (xs : List A) (n : ℕ) → length xs + n ≤ n → xs ≡ []
none_more [] n h = refl
none_more (x ∷ xs) n h = absurd (let z : ⊥ = omega arith in z)

module _ {B : Type 0} where
  abbrev crew_of : List RootStart → List Entry → List B → CrewState B
  crew_of start past brains = record { core = (start, past); brains = brains }

  abbrev of_core : List B → State → CrewState B
  of_core brains core = record { core = core; brains = brains }

  pub more_refl : (a : CrewState B) → IsMore a a
  more_refl a = record { start = refl; brains = refl; more = []; journal = refl }

  pub more_trans : (a b c : CrewState B) → IsMore a b → IsMore b c → IsMore a c
  more_trans a b c m n = record {
    start = n.start ∙ m.start;
    brains = n.brains ∙ m.brains;
    more = n.more ++ m.more;
    journal = n.journal ∙ ap (λ (es : List Entry). n.more ++ es) m.journal ∙ sym (append_again n.more m.more a.core.1);
  }

  pub more_length : (a b : CrewState B) (m : IsMore a b) → length b.core.1 ≡ length m.more + length a.core.1
  more_length a b m = ap (λ (es : List Entry). length es) m.journal ∙ length-append m.more a.core.1

  pub more_longer : (a b : CrewState B) → IsMore a b → length a.core.1 ≤ length b.core.1
  more_longer a b m = let h = more_length a b m in omega arith

  -- where no entry was appended, nothing has changed
  pub more_same : (a b : CrewState B) → IsMore a b → length b.core.1 ≤ length a.core.1 → b ≡ a
  more_same a b m h =
      let l = more_length a b m in
      let none : m.more ≡ [] = none_more m.more (length a.core.1) (omega arith) in
      ap (λ (s : List RootStart). crew_of s b.core.1 b.brains) m.start
      ∙ ap (λ (es : List Entry). crew_of a.core.0 es b.brains) (m.journal ∙ ap (λ (es : List Entry). es ++ a.core.1) none)
      ∙ ap (λ (bs : List B). crew_of a.core.0 a.core.1 bs) m.brains

  asked_more : (bs : List B) (core : State) (u : UnitName) (w : Option Want) → IsMore (of_core bs core) (of_core bs (asked_by core u w))
  asked_more bs core u None = more_refl _
  asked_more bs core u (Some (Calls c)) = record { start = refl; brains = refl; more = _ ∷ []; journal = refl }
  asked_more bs core u (Some Wait) = by (has_delivery_in core u)
    where
      by : (b : Bool) → IsMore (of_core bs core) (of_core bs (cond b (appended u Call.Get core) core))
      by true = record { start = refl; brains = refl; more = _ ∷ []; journal = refl }
      by false = more_refl _

  module _ (brain : Brain B) where
    pub run_more : (bs : List B) (n : ℕ) (u : UnitName) (core : State) → IsMore (of_core bs core) (of_core bs (turn_of brain bs n u core))
    run_more bs zero u core = more_refl _
    run_more bs (suc n) u core = by (is_local_want (want_in brain bs core u)) (run_more bs n u (asked brain bs u core))
      where
        once : IsMore (of_core bs core) (of_core bs (asked brain bs u core))
        once = asked_more bs core u (want_in brain bs core u)

        by : (b : Bool) → IsMore (of_core bs (asked brain bs u core)) (of_core bs (turn_of brain bs n u (asked brain bs u core))) →
            IsMore (of_core bs core) (of_core bs (cond b (turn_of brain bs n u (asked brain bs u core)) (asked brain bs u core)))
        by true later = more_trans _ _ _ once later
        by false later = once

    pub turn_more : (u : UnitName) (crew : CrewState B) → IsMore crew (turned brain u crew)
    turn_more u crew = run_more crew.brains most_local u crew.core

    -- what is booked of a turn is appended
    pub more_booked : (t : TurnState B) (a b : CrewState B) → b ≡ booked brain t a → IsMore a b
    more_booked t a b e = subst (λ (c : CrewState B). IsMore a c) (sym e) (by t.is_ready)
      where
        by : (ready : Bool) → IsMore a (cond ready (turned brain t.unit.unit a) a)
        by true = turn_more t.unit.unit a
        by false = more_refl a
