-- Turns below a limit append entries and change nothing else.
use Rattle.df_plain_floor.proofs.Names.{ℕ, List, [], ◌∷◌, Bool, true, false, cond, CrewState, turned, more_refl, more_trans, turn_more, IsMore, is_full, take_turn, take_turns, Brain, UnitName}

module _ {B : Type 0} (brain : Brain B) where
  pub take_more : (max : ℕ) (u : UnitName) (crew : CrewState B) → IsMore crew (take_turn brain max u crew)
  take_more max u crew = by (is_full max crew)
    where
      by : (b : Bool) → IsMore crew (cond b crew (turned brain u crew))
      by true = more_refl _
      by false = turn_more brain u crew

  pub takes_more : (max : ℕ) (us : List UnitName) (crew : CrewState B) → IsMore crew (take_turns brain max us crew)
  takes_more max [] crew = more_refl _
  takes_more max (u ∷ us) crew = more_trans _ _ _ (take_more max u crew) (takes_more max us (take_turn brain max u crew))
