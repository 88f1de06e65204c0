-- Why a purge may leave anything of what units beyond its label did.
use Rattle.std.specs.Prelude.{◌≡◌, List, ◌∷◌, ◌++◌, Some}
use Rattle.df_label.specs.declared.label.Label.{Label}
use Rattle.df_rules.specs.Commits.{commit_in}
use Rattle.df_rules.specs.Exercised.{IsExercised}
use Rattle.df_rules.specs.Purge.{echo}
use Rattle.df_rules.specs.Start.{rows}
use Rattle.df_unit.specs.OwnState.{OwnState}
use Rattle.df_unit.specs.declared.call.Call.{Call}
use Rattle.df_unit.specs.declared.commit.Commit.{Commit}
use Rattle.df_unit.specs.declared.entry.Effect.{Effect}
use Rattle.df_unit.specs.declared.entry.Entry.{Entry}
use Rattle.df_unit.specs.declared.entry.Entry.TheVariants.{Done}
use Rattle.df_unit.specs.declared.name.UnitName.{UnitName}
use Rattle.df_unit.specs.declared.reply.Reply.{Reply}

-- where a label shows anything of a unit's commit, what its actor lacks to be within the label was
-- set aside by privileges while they were held
abbrev pub EmitsByPrivileges : List OwnState → Label → List Entry → Type 0
EmitsByPrivileges s l past = (newer older : List Entry) (u : UnitName) (c : Call) (r : Reply)
    (f : Effect) (k : Commit) → past ≡ newer ++ Done u c r f ∷ older →
    echo l (commit_in f) ≡ Some k → (st : OwnState) × IsExercised rows s older u l st
