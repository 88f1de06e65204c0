-- The rules of the calls, as what the definitions need of them.
use Rattle.std.specs.Prelude.{ℕ, Bool, List, Option}
use Rattle.df_filter.specs.declared.clause.Clause.{Clause}
use Rattle.df_priv.specs.declared.need.Act.{Act}
use Rattle.df_unit.specs.OwnState.{OwnState, Fixed}
use Rattle.df_unit.specs.declared.call.Call.{Call}
use Rattle.df_unit.specs.declared.commit.Given.{Given}
use Rattle.df_unit.specs.declared.entry.Effect.{Effect}
use Rattle.df_unit.specs.declared.name.UnitName.{UnitName}
use Rattle.df_unit.specs.declared.reply.Reply.{Reply}

pub record Rules : Type 0 where
  -- the reply and the effect, by the unit's own state and the deliveries that are left to it
  pub answer : UnitName → OwnState → List Given → Call → Reply × Effect
  -- the own state after a call with its reply and effect
  pub after : UnitName → OwnState → Call → Reply → Effect → OwnState
  -- the unit's ordinary subscription, a number and a filter, where the call and reply make it
  pub subscribes : OwnState → Call → Reply → Option (ℕ × List Clause)
  -- what the unit's managed subscription of a number keeps, where the call and reply make it
  pub fixes : OwnState → ℕ → Call → Reply → Option Fixed
  -- an instance as it begins
  pub begin : Fixed → List (List ℕ) → OwnState
  -- the unit's child of a number as it begins, where the call and reply make it
  pub makes : OwnState → ℕ → Call → Reply → Option OwnState
  -- whether the unit holds the privilege that a change of its label by the tag needs
  pub holds : OwnState → Act → List ℕ → Bool
