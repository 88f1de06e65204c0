-- The front of a call's line.
use Rattle.std.specs.Prelude.{ℕ, List, ◌++◌}
use Rattle.df_unit.specs.declared.call.Call.{Call}
use Rattle.df_unit.specs.declared.name.UnitName.{UnitName}
use Rattle.df_journal_text.specs.Call.{call_words}
use Rattle.df_journal_text.specs.Line.{spaced}
use Rattle.df_journal_text.specs.Name.{unit_text}

-- who makes a call, and its words: what stands before the reply in the call's line
abbrev pub call_front : UnitName → Call → List ℕ
call_front actor call = unit_text actor ++ spaced (call_words call)
