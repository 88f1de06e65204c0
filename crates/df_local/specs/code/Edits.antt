-- The calls that edit an event.
use Rattle.std.specs.Prelude.{Bool, true, false}
use Rattle.df_unit.specs.declared.call.Call.{Call}

-- whether a call adds a part or deletes one
abbrev pub is_edit : Call → Bool
is_edit (Call.AddPart h label name value) = true
is_edit (Call.DelPart h label name) = true
is_edit _ = false
