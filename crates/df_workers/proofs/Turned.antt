-- What a booked turn does for its unit: it has an entry, or the unit had nothing to do.
use Rattle.df_workers.proofs.Names.{◌≡◌, ◌⊎◌, inl, inr, ℕ, zero, suc, ◌<◌, ◌≤◌, List, [], ◌∷◌, ◌++◌, Bool, true, false, ◌||◌, refl, sym, ◌∙◌, ap, subst, cond, Option, Some, None, length, arith, append_assoc, is_some, reverse, length-reverse, reverse-append, reverse-reverse, IsPrefix, booked, IsResting, core_at, crew_at, seen_of, Origin, IsBooked, Brain, Calls, Last, Wait, Want, has_entry, TurnState, most_local, Entry, UnitName, HasMoved, entry_behind, entry_reverse}
use Rattle.df_booking.specs.CrewState.{CrewState, want_in}
use Rattle.df_booking.specs.Turns.{asked, asked_by, is_local_want, turn_of, turned}
use Rattle.df_booking.proofs.Entries.{same_self}
use Rattle.df_crew.proofs.Growing.{more_booked}
use Rattle.df_crew.proofs.Seen.{more_seen}
use Rattle.df_crew.proofs.Still.{at_rest}
use Rattle.df_machine.specs.Journal.{State, appended, has_delivery_in}
use Rattle.df_unit.specs.declared.call.Call.{Call}

-- nothing was appended, or entries of which one is the unit's; the newest stand first
record Moves (u : UnitName) (old new : List Entry) : Type 0 where
  more : List Entry
  journal : new ≡ more ++ old
  entries : (more ≡ []) ⊎ (has_entry u more ≡ true)

module _ (u : UnitName) where
  moves_none : (es : List Entry) → Moves u es es
  moves_none es = record { more = []; journal = refl; entries = inl refl }

  moves_one : (core : State) (c : Call) → Moves u core.1 (appended u c core).1
  moves_one core c = record { more = _ ∷ []; journal = refl; entries = inr (ap (λ (b : Bool). b || false) (same_self u)) }

  moves_trans : (a b c : List Entry) → Moves u a b → Moves u b c → Moves u a c
  moves_trans a b c m n = record {
    more = n.more ++ m.more;
    journal = n.journal ∙ ap (λ (es : List Entry). n.more ++ es) m.journal ∙ sym (append_assoc n.more m.more a);
    entries = by n.entries;
  }
    where
      by : ((n.more ≡ []) ⊎ (has_entry u n.more ≡ true)) → (n.more ++ m.more ≡ []) ⊎ (has_entry u (n.more ++ m.more) ≡ true)
      by (inr h) = inr (entry_behind u n.more m.more h)
      by (inl h) = subst (λ (es : List Entry). (es ++ m.more ≡ []) ⊎ (has_entry u (es ++ m.more) ≡ true)) (sym h) m.entries

  moves_asked : (core : State) (w : Option Want) → Moves u core.1 (asked_by core u w).1
  moves_asked core None = moves_none core.1
  moves_asked core (Some (Calls c)) = moves_one core c
  moves_asked core (Some Wait) = by (has_delivery_in core u)
    where
      by : (b : Bool) → Moves u core.1 (cond b (appended u Call.Get core) core).1
      by true = moves_one core Call.Get
      by false = moves_none core.1

module _ {B : Type 0} (brain : Brain B) where
  moves_run : (bs : List B) (n : ℕ) (u : UnitName) (core : State) → Moves u core.1 (turn_of brain bs n u core).1
  moves_run bs zero u core = moves_none u core.1
  moves_run bs (suc n) u core = by (is_local_want (want_in brain bs core u)) (moves_run bs n u (asked brain bs u core))
    where
      once : Moves u core.1 (asked brain bs u core).1
      once = moves_asked u core (want_in brain bs core u)

      by : (b : Bool) → Moves u (asked brain bs u core).1 (turn_of brain bs n u (asked brain bs u core)).1 →
          Moves u core.1 (cond b (turn_of brain bs n u (asked brain bs u core)) (asked brain bs u core)).1
      by true later = moves_trans u _ _ _ once later
      by false later = once

  module _ (o : Origin B) (t : TurnState B) (found seen : List Entry) (b : IsBooked brain o t found seen) where
    abbrev crew : CrewState B
    crew = crew_at o found

    pub booked_behind : IsPrefix found seen
    booked_behind =
        subst (λ (es : List Entry). IsPrefix es seen) (reverse-reverse found)
        (subst (λ (es : List Entry). IsPrefix (seen_of crew) es) (sym b.journal)
        (more_seen crew (booked brain t crew) (more_booked brain t crew (booked brain t crew) refl)))

    module _ (ready : t.is_ready ≡ true) where
      taken : seen ≡ seen_of (turned brain t.unit.unit crew)
      taken = b.journal ∙ ap (λ (r : Bool). seen_of (cond r (turned brain t.unit.unit crew) crew)) ready

      -- a booking that appended something has an entry of the turn's unit
      pub booked_moved : length found < length seen → HasMoved t.unit.unit found seen
      booked_moved longer = record { rest = reverse m.more; journal = sym joined; moved = entry_reverse t.unit.unit m.more ∙ by m.entries }
        where
          m : Moves t.unit.unit (reverse found) (turned brain t.unit.unit crew).core.1
          m = moves_run o.brains most_local t.unit.unit (core_at o found)

          joined : seen ≡ found ++ reverse m.more
          joined = taken ∙ ap (λ (es : List Entry). reverse es) m.journal ∙ reverse-append m.more (reverse found)
              ∙ ap (λ (es : List Entry). es ++ reverse m.more) (reverse-reverse found)

          none : m.more ≡ [] → length seen ≤ length found
          none e =
              let k = ap (λ (es : List Entry). length es)
              (taken ∙ ap (λ (es : List Entry). reverse es) (m.journal ∙ ap (λ (es : List Entry). es ++ reverse found) e) ∙ reverse-reverse found) in
              omega (arith, k)

          by : ((m.more ≡ []) ⊎ (has_entry t.unit.unit m.more ≡ true)) → has_entry t.unit.unit m.more ≡ true
          by (inr h) = h
          by (inl e) = absurd (let k = none e in let z : ⊥ = omega (arith, k, longer) in z)

      -- one that appended nothing found the unit at rest
      pub booked_rests : length seen ≤ length found → IsResting brain crew t.unit.unit
      booked_rests short = λ st here. at_rest brain t.unit.unit crew st here (ap (λ (m : Option (B × Last)). is_some m) b.current.mind) still
        where
          still : length (turned brain t.unit.unit crew).core.1 ≤ length crew.core.1
          still =
              let k = length-reverse (turned brain t.unit.unit crew).core.1 in
              let l = length-reverse found in
              let e = ap (λ (es : List Entry). length es) taken in
              omega (arith, k, l, e, short)
