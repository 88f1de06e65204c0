-- How the lines are spelled that stand below that of a call.
use Rattle.std.specs.Prelude.{ℕ, List, [], ◌∷◌, codes}
use Rattle.df_label.specs.declared.label.Label.{Label}
use Rattle.df_unit.specs.declared.name.EventName.{EventName}
use Rattle.df_value_text.specs.Label.{label_text}
use Rattle.df_journal_text.specs.Line.{line}
use Rattle.df_journal_text.specs.Name.{event_text}

-- a contamination that is noted
abbrev pub note_line : Label → List ℕ
note_line label = line (codes "@") (label_text label ∷ [])

-- an event behind a mark
abbrev pub event_line : List ℕ → EventName → List ℕ
event_line mark event = line mark (event_text event ∷ [])
