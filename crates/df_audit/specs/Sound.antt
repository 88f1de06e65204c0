-- What a journal owes to each unit.
use Rattle.std.specs.Prelude.{◌≡◌, List, ◌∷◌, ◌++◌, Some}
use Rattle.df_label.specs.declared.label.Label.{Label}
use Rattle.df_rules.specs.Deliveries.{deliveries}
use Rattle.df_rules.specs.Legal.{Legal}
use Rattle.df_rules.specs.Own.{own}
use Rattle.df_rules.specs.Received.{Receives, received}
use Rattle.df_rules.specs.Separates.{Separates}
use Rattle.df_rules.specs.Start.{rows}
use Rattle.df_unit.specs.OwnState.{OwnState}
use Rattle.df_unit.specs.declared.call.Call.{Call}
use Rattle.df_unit.specs.declared.entry.Effect.{Effect}
use Rattle.df_unit.specs.declared.entry.Entry.{Entry}
use Rattle.df_unit.specs.declared.entry.Entry.TheVariants.{Done}
use Rattle.df_unit.specs.declared.name.UnitName.{UnitName}
use Rattle.df_unit.specs.declared.reply.Reply.{Reply}

-- the journal is legal; each unit's gets gave it just its deliveries, in order, and what is left; a
-- get gave nothing only where none was left; and its purge at each label is legal, keeps what units
-- within the label have and are handed, and leaves of the others only what privileges let out
pub record IsSound (s : List OwnState) (past : List Entry) : Type 0 where
  pub legal : Legal rows s past
  pub delivers : (u : UnitName) (st : OwnState) → own rows s past u ≡ Some st →
      Receives rows s past u st
  pub none_left : (newer older : List Entry) (u : UnitName) (f : Effect) →
      past ≡ newer ++ Done u Call.Get Reply.Nothing f ∷ older →
      received u older ≡ deliveries rows s older u
  pub separates : (l : Label) → Separates rows s past l
