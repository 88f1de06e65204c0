-- What a journal owes to units within a label, in one word.
use Rattle.std.specs.Prelude.{◌≡◌, List, ◌∷◌, ◌++◌, Some}
use Rattle.df_label.specs.declared.label.Label.{Label}
use Rattle.df_rules.specs.Commits.{commit_in}
use Rattle.df_rules.specs.Exercised.{IsExercised}
use Rattle.df_rules.specs.Legal.{Legal}
use Rattle.df_rules.specs.Purge.{Keeps, echo, purge}
use Rattle.df_rules.specs.Rules.{Rules}
use Rattle.df_unit.specs.OwnState.{OwnState}
use Rattle.df_unit.specs.declared.call.Call.{Call}
use Rattle.df_unit.specs.declared.commit.Commit.{Commit}
use Rattle.df_unit.specs.declared.entry.Effect.{Effect}
use Rattle.df_unit.specs.declared.entry.Entry.{Entry}
use Rattle.df_unit.specs.declared.entry.Entry.TheVariants.{Done}
use Rattle.df_unit.specs.declared.name.UnitName.{UnitName}
use Rattle.df_unit.specs.declared.reply.Reply.{Reply}

-- the purge at the label is legal, keeps what units within the label are, subscribed to and are
-- handed, and what it leaves of the others was emitted by privileges
pub record Separates (R : Rules) (s : List OwnState) (past : List Entry) (l : Label) : Type 0 where
  pub legal : Legal R s (purge R s l past)
  pub keeps : Keeps R s l past (purge R s l past)
  pub exercised : (newer older : List Entry) (u : UnitName) (c : Call) (r : Reply) (f : Effect)
      (k : Commit) → past ≡ newer ++ Done u c r f ∷ older → echo l (commit_in f) ≡ Some k →
      (st : OwnState) × IsExercised R s older u l st
