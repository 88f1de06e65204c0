-- How entries are spelled.
use Rattle.std.specs.Prelude.{ℕ, List, [], ◌∷◌, ◌++◌, Option, Some, None, map, codes}
use Rattle.std.specs.List.{flat_map}
use Rattle.df_label.specs.declared.label.Label.{Label}
use Rattle.df_value_text.specs.Label.{label_text, privilege_text}
use Rattle.df_value_text.specs.Value.{value_text}
use Rattle.df_part.specs.declared.part.Part.{Part}
use Rattle.df_part.specs.declared.edit.Spot.{Spot}
use Rattle.df_unit.specs.declared.name.UnitName.{UnitName}
use Rattle.df_unit.specs.declared.commit.Given.{Given}
use Rattle.df_unit.specs.declared.parts.PartRead.{PartRead}
use Rattle.df_unit.specs.declared.call.Call.{Call}
use Rattle.df_unit.specs.declared.reply.Reply.{Reply}
use Rattle.df_unit.specs.declared.reply.Reply.TheVariants.{Parts}
use Rattle.df_unit.specs.declared.entry.Effect.{Effect}
use Rattle.df_unit.specs.declared.entry.Effect.TheVariants as effect
use Rattle.df_unit.specs.declared.entry.Entry.{Entry}
use Rattle.df_unit.specs.declared.entry.Entry.TheVariants.{Done, Emitted}
use Rattle.df_unit.specs.declared.entry.Noted.{Noted}
use Rattle.df_journal_text.specs.Line.{line}
use Rattle.df_journal_text.specs.Name.{unit_text, event_text}
use Rattle.df_journal_text.specs.Call.{call_words}
use Rattle.df_journal_text.specs.Reply.{reply_words}

-- a part behind a mark: its label, name, value and privileges
abbrev pub part_line : List ℕ → Part → List ℕ
part_line mark part =
    line mark (label_text part.label ∷ part.name ∷ value_text part.value
    ∷ map privilege_text part.privileges)

-- a deleted spot
abbrev pub spot_line : Spot → List ℕ
spot_line spot = line (codes "-") (label_text spot.label ∷ spot.name ∷ [])

-- what a read shows of a part
abbrev pub read_line : PartRead → List ℕ
read_line part =
    line (codes ":") (label_text part.label ∷ value_text part.value
    ∷ map privilege_text part.privileges)

-- what a commit deletes and then what it adds
abbrev pub edit_text : List Spot × List Part → List ℕ
edit_text edit = flat_map spot_line edit.0 ++ flat_map (part_line (codes "+")) edit.1

-- an event that was handed, with its parts
abbrev pub given_text : Given → List ℕ
given_text given = line (codes "<") (event_text given.event ∷ [])
    ++ flat_map (part_line (codes ".")) given.parts

-- the lines of an effect
abbrev pub effect_text : Effect → List ℕ
effect_text effect.Nothing = []
effect_text (effect.Commit commit) = line (codes "=") (event_text commit.event ∷ [])
    ++ edit_text commit.edit
effect_text (effect.Given given) = given_text given

-- the lines of what a read shows
abbrev pub reads_text : Reply → List ℕ
reads_text (Parts parts) = flat_map read_line parts
reads_text _ = []

-- the line of a call and its reply
abbrev pub call_line : UnitName → Call → Reply → List ℕ
call_line actor call reply =
    line (unit_text actor) (call_words call ++ codes "->" ∷ reply_words reply)

-- the line of a contamination, where one is noted
abbrev pub note_text : Option Label → List ℕ
note_text None = []
note_text (Some label) = line (codes "@") (label_text label ∷ [])

-- the lines of an entry, with its actor's contamination before it where that is noted
abbrev pub entry_text : Option Label → Entry → List ℕ
entry_text contamination (Done actor call reply effect) =
    call_line actor call reply ++ note_text contamination ++ reads_text reply ++ effect_text effect
entry_text _ (Emitted commit) = line (codes "emitted") (event_text commit.event ∷ [])
    ++ edit_text commit.edit

-- the lines of a noted entry
abbrev pub noted_text : Noted → List ℕ
noted_text noted = entry_text noted.contamination noted.entry
