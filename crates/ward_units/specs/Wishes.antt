-- The wishes that several units have.
use Rattle.std.specs.Prelude.{ℕ, List}
use Rattle.df_filter.specs.declared.clause.Clause.{Clause}
use Rattle.df_priv.specs.declared.need.Act.TheVariants.{Del}
use Rattle.df_priv.specs.declared.need.Half.TheVariants.{S}
use Rattle.df_rules.specs.Follows.{Calls, Want}
use Rattle.df_unit.specs.declared.call.Call.TheVariants.{AddPart, ChangeOutLabel, ReadPart, Subscribe}
use Rattle.ward_units.specs.declared.new_part.NewPart.{NewPart}

-- to be handed the events that match
abbrev pub subscribes : List Clause → Want
subscribes filter = Calls (Subscribe filter)

-- to read the parts of this name
abbrev pub reads : ℕ → List ℕ → Want
reads h name = Calls (ReadPart h name)

-- to add a part
abbrev pub adds : ℕ → NewPart → Want
adds h part = Calls (AddPart h part.label part.name part.value)

-- to let out what a tag holds back
abbrev pub lets_out : List ℕ → Want
lets_out tag = Calls (ChangeOutLabel S Del tag)
