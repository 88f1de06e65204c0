-- How units and events are spelled.
use Rattle.std.specs.Prelude.{ℕ, List, ◌++◌, codes, decimal}
use Rattle.df_value_text.specs.Label.{path_text, tags_text}
use Rattle.df_unit.specs.declared.name.UnitName.{UnitName}
use Rattle.df_unit.specs.declared.name.UnitName.TheVariants.{Root, Managed}
use Rattle.df_unit.specs.declared.name.EventName.{EventName}

-- a plain unit's path; for an instance the owner's path, the subscription's number and the tags of
-- its name
abbrev pub unit_text : UnitName → List ℕ
unit_text (Root path) = path_text path
unit_text (Managed owner sub s) = path_text owner ++ codes "/" ++ decimal sub
    ++ codes "{" ++ tags_text s ++ codes "}"

-- an event: its unit and its number
abbrev pub event_text : EventName → List ℕ
event_text event = unit_text event.unit ++ codes "!" ++ decimal event.number
