-- What the turns of units leave of a journal: what one more entry of theirs leaves.
use Rattle.df_floor_run.proofs.Names.{ℕ, zero, suc, List, [], ◌∷◌, Bool, true, false, sym, subst, cond, Option, Some, None, CrewState, want_in, asked, asked_by, is_local_want, turn_of, turned, State, appended, has_delivery_in, IsTurn, Repeated, is_full, take_turn, take_turns, Brain, Calls, Wait, Want, Call, UnitName}
use Rattle.df_turn.specs.Locally.{most_local}

module _ {B : Type 0} (brain : Brain B) (P : State → Type 0) (u : UnitName) (more : (c : Call) (core : State) → P core → P (appended u c core)) where
  pub asked_keeps : (core : State) (w : Option Want) → P core → P (asked_by core u w)
  asked_keeps core None p = p
  asked_keeps core (Some (Calls c)) p = more c core p
  asked_keeps core (Some Wait) p = by (has_delivery_in core u)
    where
      by : (b : Bool) → P (cond b (appended u Call.Get core) core)
      by true = more Call.Get core p
      by false = p

  pub run_keeps : (bs : List B) (n : ℕ) (core : State) → P core → P (turn_of brain bs n u core)
  run_keeps bs zero core p = p
  run_keeps bs (suc n) core p = by (is_local_want (want_in brain bs core u)) (run_keeps bs n (asked brain bs u core) once)
    where
      once : P (asked brain bs u core)
      once = asked_keeps core (want_in brain bs core u) p

      by : (b : Bool) → P (turn_of brain bs n u (asked brain bs u core)) → P (cond b (turn_of brain bs n u (asked brain bs u core)) (asked brain bs u core))
      by true later = later
      by false later = once

  module _ (max : ℕ) where
    pub take_keeps : (crew : CrewState B) → P crew.core → P (take_turn brain max u crew).core
    take_keeps crew p = by (is_full max crew)
      where
        by : (b : Bool) → P (cond b crew (turned brain u crew)).core
        by true = p
        by false = run_keeps crew.brains most_local crew.core p

    pub turns_keep : (n : ℕ) (old new : CrewState B) → Repeated (IsTurn brain max u) n old new → P old.core → P new.core
    turns_keep zero old new same p = subst (λ (c : CrewState B). P c.core) (sym same) p
    turns_keep (suc n) old new (mid, before, step) p =
        subst (λ (c : CrewState B). P c.core) (sym step) (take_keeps mid (turns_keep n old mid before p))

module _ {B : Type 0} (brain : Brain B) (P : State → Type 0) (more : (u : UnitName) (c : Call) (core : State) → P core → P (appended u c core)) (max : ℕ) where
  pub all_keep : (us : List UnitName) (crew : CrewState B) → P crew.core → P (take_turns brain max us crew).core
  all_keep [] crew p = p
  all_keep (u ∷ us) crew p = all_keep us (take_turn brain max u crew) (take_keeps brain P u (more u) max crew p)
