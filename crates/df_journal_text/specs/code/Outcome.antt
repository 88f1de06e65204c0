-- What stands behind the front of a call's line.
use Rattle.std.specs.Prelude.{ℕ, List, [], ◌∷◌, ◌++◌, Option, None, Some, codes}
use Rattle.df_label.specs.declared.label.Label.{Label}
use Rattle.df_unit.specs.declared.entry.Effect.{Effect}
use Rattle.df_unit.specs.declared.reply.Reply.{Reply}
use Rattle.df_journal_text.specs.Entry.{effect_text, note_text, reads_text}
use Rattle.df_journal_text.specs.Line.{line}
use Rattle.df_journal_text.specs.Reply.{reply_words}

-- the reply of a call, behind its words, and the end of the line
abbrev pub answer_text : Reply → List ℕ
answer_text reply = line [] (codes "->" ∷ reply_words reply)

-- the line of a contamination behind a reply, where one is noted
abbrev pub noted_answer : Reply → Option Label → List ℕ
noted_answer told None = []
noted_answer told (Some label) = answer_text told ++ note_text (Some label)

-- the reply of a call and the lines of its entry that stand below
abbrev pub outcome_text : Option Label → Reply → Effect → List ℕ
outcome_text contamination reply effect =
    answer_text reply ++ note_text contamination ++ reads_text reply ++ effect_text effect
