-- What the rules of the calls keep, on which the promise of grounds rests.
use Rattle.std.specs.Prelude.{◌≡◌, ◌⊎◌, true, List, ◌∷◌}
use Rattle.df_rules.specs.Rules.{Rules}
use Rattle.df_unit.specs.OwnState.{OwnState}
use Rattle.df_unit.specs.declared.call.Call.{Call}
use Rattle.df_unit.specs.declared.commit.Given.{Given}
use Rattle.df_unit.specs.declared.name.UnitName.{UnitName}
use Rattle.df_why.specs.Grounds.{is_met}

-- only a get looks at the deliveries that are left, and at no more than the first of them
pub record MeetingLaws (R : Rules) : Type 0 where
  pub looks : (u : UnitName) (st : OwnState) (c : Call) →
      ((ds ds' : List Given) → R.answer u st ds c ≡ R.answer u st ds' c)
      ⊎ ((d : Given) (ds : List Given) → is_met c (R.answer u st (d ∷ ds) c).0 ≡ true)
  pub first : (u : UnitName) (st : OwnState) (c : Call) (d : Given) (ds ds' : List Given) →
      R.answer u st (d ∷ ds) c ≡ R.answer u st (d ∷ ds') c
