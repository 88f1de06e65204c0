-- A unit whose turn appends nothing is at rest.
use Rattle.df_crew.proofs.Names.{◌≡◌, ℕ, suc, ◌≤◌, List, [], ◌∷◌, Bool, true, false, refl, sym, ◌∙◌, ap, subst, cond, Option, Some, None, length, arith, ⊤, is_some, not, option_map, CrewState, mind_in, want_by, want_in, mind_from, asked_by, is_local_want, turn_of, turned, State, appended, firsts, has_delivery_in, is_due, Brain, Calls, IsAtRest, Wait, Want, began_with, replies_of, wanted, own, rows, OwnState, is_nil, Call, Entry, UnitName}
use Rattle.df_turn.specs.Locally.{most_local}
use Rattle.df_local_run.specs.Runs.{is_local}
use Rattle.df_rules.specs.Deliveries.{deliveries}
use Rattle.df_unit.specs.declared.commit.Given.{Given}
use Rattle.df_crew.proofs.Growing.{more_longer, run_more}

-- who wants this appends nothing
abbrev Rests : State → UnitName → Option Want → Type 0
Rests core u None = ⊤
Rests core u (Some (Calls c)) = ⊥
Rests core u (Some Wait) = has_delivery_in core u ≡ false

-- a turn has room for a local call
most_some : (n : ℕ) × (most_local ≡ suc n)
unfolding most_local
most_some = (1_023, refl)

nothing_left : (ds : List Given) → not (is_nil ds) ≡ false → ds ≡ []
nothing_left [] h = refl
nothing_left (d ∷ ds) h = absurd (let z : ⊥ = cc in z)

module _ {B : Type 0} (brain : Brain B) where
  run_longer : (bs : List B) (n : ℕ) (u : UnitName) (core : State) → length core.1 ≤ length (turn_of brain bs n u core).1
  run_longer bs n u core = more_longer _ _ (run_more brain bs n u core)

  still_by : (bs : List B) (n : ℕ) (u : UnitName) (core : State) (w : Option Want) →
      length (cond (is_local_want w) (turn_of brain bs n u (asked_by core u w)) (asked_by core u w)).1 ≤ length core.1 → Rests core u w
  still_by bs n u core None h = tt
  still_by bs n u core (Some (Calls c)) h = by (is_local c) h
    where
      by : (b : Bool) → length (cond b (turn_of brain bs n u (appended u c core)) (appended u c core)).1 ≤ length core.1 → ⊥
      by true k = let z = run_longer bs n u (appended u c core) in omega arith
      by false k = omega arith
  still_by bs n u core (Some Wait) h = by (has_delivery_in core u) h
    where
      by : (b : Bool) → length (cond b (appended u Call.Get core) core).1 ≤ length core.1 → b ≡ false
      by true k = absurd (let z : ⊥ = omega arith in z)
      by false k = refl

  still_run : (bs : List B) (n : ℕ) (u : UnitName) (core : State) → length (turn_of brain bs (suc n) u core).1 ≤ length core.1 →
      Rests core u (want_in brain bs core u)
  still_run bs n u core h = still_by bs n u core (want_in brain bs core u) h

  still_turn : (u : UnitName) (crew : CrewState B) → length (turned brain u crew).core.1 ≤ length crew.core.1 →
      Rests crew.core u (want_in brain crew.brains crew.core u)
  still_turn u crew h = still_run crew.brains most_some.0 u crew.core
      (subst (λ (n : ℕ). length (turn_of brain crew.brains n u crew.core).1 ≤ length crew.core.1) most_some.1 h)

  module _ (u : UnitName) (crew : CrewState B) (st : OwnState) (here : own rows (firsts crew.core.0) crew.core.1 u ≡ Some st) where
    abbrev past : List Entry
    past = crew.core.1

    wants : (x : B) → began_with brain rows (firsts crew.core.0) crew.brains past u ≡ Some x →
        want_in brain crew.brains crew.core u ≡ Some (wanted brain x (replies_of u past)).0
    wants x e =
        ap (λ (o : Option OwnState). want_by brain o (mind_in brain crew.brains crew.core u)) here
        ∙ ap (λ (o : Option B). want_by brain (Some st) (option_map (mind_from brain past u) o)) e

    rests : (x : B) → began_with brain rows (firsts crew.core.0) crew.brains past u ≡ Some x → (w : Want) → (wanted brain x (replies_of u past)).0 ≡ w →
        Rests crew.core u (Some w) →
        IsAtRest brain rows (firsts crew.core.0) crew.brains past u st x
    rests x e (Calls c) is r = absurd r
    rests x e Wait is r = record {
      begun = e;
      waits = is;
      none_left = nothing_left _ (ap (λ (o : Option OwnState). is_due o (deliveries rows (firsts crew.core.0) past u)) (sym here) ∙ r);
    }

    pub at_rest : is_some (mind_in brain crew.brains crew.core u) ≡ true → length (turned brain u crew).core.1 ≤ length crew.core.1 →
        (x : B) × IsAtRest brain rows (firsts crew.core.0) crew.brains past u st x
    at_rest m h = by (began_with brain rows (firsts crew.core.0) crew.brains past u) refl m
      where
        by : (o : Option B) → began_with brain rows (firsts crew.core.0) crew.brains past u ≡ o → is_some (option_map (mind_from brain past u) o) ≡ true →
            (x : B) × IsAtRest brain rows (firsts crew.core.0) crew.brains past u st x
        by None e k = absurd (let z : ⊥ = cc in z)
        by (Some x) e k = (x, rests x e _ refl (subst (λ (w : Option Want). Rests crew.core u w) (wants x e) (still_turn u crew h)))
