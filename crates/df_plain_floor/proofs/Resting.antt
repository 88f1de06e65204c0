-- Where a pass appends nothing, and the run goes on, each unit is at rest.
use Rattle.df_plain_floor.proofs.Names.{◌≡◌, ℕ, zero, suc, ◌≤◌, List, [], ◌∷◌, Bool, true, false, ◌∙◌, ap, subst, cond, Option, Some, length, arith, is_some, slice_get, CrewState, turned, more_longer, more_same, IsRoll, firsts, local_of, Brain, UnitName, HasBrain, IsQuiet, is_full, take_turn, take_turns}
use Rattle.std.specs.Option.{option_map}
use Rattle.df_crew.proofs.Rolls.{placed}
use Rattle.df_crew.proofs.Still.{at_rest}
use Rattle.df_local.specs.code.LocalState.{LocalState}
use Rattle.df_rules.specs.Own.{exists}
use Rattle.df_rules.specs.Start.{rows}
use Rattle.df_unit.specs.OwnState.{OwnState}
use Rattle.df_plain_floor.proofs.More.{take_more, takes_more}

module _ {B : Type 0} (brain : Brain B) (max : ℕ) where
  takes : (u : UnitName) (crew : CrewState B) → is_full max crew ≡ false → take_turn brain max u crew ≡ turned brain u crew
  takes u crew h = ap (λ (b : Bool). cond b crew (turned brain u crew)) h

  -- where units take turns and nothing is appended, each one's turn appends nothing
  each_still : (us : List UnitName) (crew : CrewState B) → is_full max crew ≡ false → length (take_turns brain max us crew).core.1 ≤ length crew.core.1 →
      (k : ℕ) (u : UnitName) → slice_get us k ≡ Some u → length (turned brain u crew).core.1 ≤ length crew.core.1
  each_still [] crew below h k u e = absurd (let z : ⊥ = cc in z)
  each_still (v ∷ us) crew below h k u e = by (λ more j. each_still us crew below more j u) k e
    where
      longer : length (take_turn brain max v crew).core.1 ≤ length (take_turns brain max us (take_turn brain max v crew)).core.1
      longer = more_longer _ _ (takes_more brain max us (take_turn brain max v crew))

      still : take_turn brain max v crew ≡ crew
      still = more_same _ _ (take_more brain max v crew) (omega (arith, longer, h))

      first : length (turned brain v crew).core.1 ≤ length crew.core.1
      first = subst (λ (c : CrewState B). length c.core.1 ≤ length crew.core.1) (takes v crew below) (omega (arith, longer, h))

      rest : length (take_turns brain max us crew).core.1 ≤ length crew.core.1
      rest = subst (λ (c : CrewState B). length (take_turns brain max us c).core.1 ≤ length crew.core.1) still h

      by : (length (take_turns brain max us crew).core.1 ≤ length crew.core.1 → (j : ℕ) → slice_get us j ≡ Some u →
          length (turned brain u crew).core.1 ≤ length crew.core.1) →
          (k : ℕ) → slice_get (v ∷ us) k ≡ Some u → length (turned brain u crew).core.1 ≤ length crew.core.1
      by later zero p = subst (λ (w : UnitName). length (turned brain w crew).core.1 ≤ length crew.core.1) (let q : v ≡ u = cc in q) first
      by later (suc j) p = later rest j p

  pub quiet : (names : List UnitName) (crew : CrewState B) → IsRoll crew.core names → is_full max crew ≡ false → take_turns brain max names crew ≡ crew →
      ((k : ℕ) (u : UnitName) → slice_get names k ≡ Some u → HasBrain brain max crew u) → IsQuiet brain crew
  quiet names crew roll below same brains = λ u st here.
      let there : exists rows (firsts crew.core.0) crew.core.1 u ≡ true = ap is_some here in
      let p = placed names u (roll.units u ∙ there) in
      let far : length (take_turns brain max names crew).core.1 ≤ length crew.core.1 = (let z = ap (λ (c : CrewState B). length c.core.1) same in
      omega (arith, z)) in
      let local : is_some (local_of crew.core u) ≡ true = ap (λ (o : Option OwnState). is_some {T = LocalState}
      (option_map (λ (s : OwnState). let l : LocalState = record { unit = u; own = s } in l) o)) here in
      at_rest brain u crew st here (brains p.0 u p.1 below local) (each_still names crew below far p.0 u p.1)
