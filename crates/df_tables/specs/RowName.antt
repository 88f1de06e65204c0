-- How the row of an event keeps its name.
use Rattle.std.specs.Prelude.{[], ◌∷◌}
use Rattle.df_unit.specs.declared.name.EventName.{EventName}
use Rattle.df_unit.specs.declared.name.UnitName.TheVariants.{Root}
use Rattle.df_tables.specs.declared.row_name.Kept.{Kept}
use Rattle.df_tables.specs.declared.row_name.Kept.TheVariants.{Named, Numbered}

-- the event that is named
abbrev pub event_of : Kept → EventName
event_of (Numbered root number) = record { unit = Root (root ∷ []); number = number }
event_of (Named event) = event.value
