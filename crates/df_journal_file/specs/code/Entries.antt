-- What is read of entries from a place on.
use Rattle.std.specs.Prelude.{◌≡◌, ◌≢◌, ℕ, ◌<◌, Bool, true, false, List, [], ◌++◌, length, Option, Some, None}
use Rattle.std.specs.List.{All}
use Rattle.df_label.specs.declared.label.Label.{Label}
use Rattle.df_part.specs.declared.part.Part.{Part}
use Rattle.df_part.specs.declared.edit.Spot.{Spot}
use Rattle.df_unit.specs.declared.commit.Commit.{Commit}
use Rattle.df_unit.specs.declared.commit.Given.{Given}
use Rattle.df_unit.specs.declared.reply.Reply.{Reply}
use Rattle.df_unit.specs.declared.reply.Reply.TheVariants as reply
use Rattle.df_unit.specs.declared.entry.Effect.{Effect}
use Rattle.df_unit.specs.declared.entry.Noted.{Noted}
use Rattle.df_value_text.specs.Fits.{IsLabel}
use Rattle.df_journal_text.specs.Entry.{edit_text}
use Rattle.df_journal_text.specs.Fits.{IsCommit, IsEdit, IsEffectOf, IsEvent, IsPart, IsReply}
use Rattle.df_journal_file.specs.Below.{event_line}
use Rattle.df_journal_file.specs.Journal.{ChangesSome, EditsSome, IsWholeEntry, IsWholeNoted, ShowsSome}

-- an edit that does something
abbrev pub IsSomeEdit : List Spot × List Part → Type 0
IsSomeEdit edit = IsEdit edit × EditsSome edit

-- a commit that does something, behind a mark
abbrev pub commit_lines : List ℕ → Commit → List ℕ
commit_lines mark commit = event_line mark commit.event ++ edit_text commit.edit

abbrev pub IsSomeCommit : Commit → Type 0
IsSomeCommit commit = IsCommit commit × EditsSome commit.edit

-- what is handed over for this subscription
abbrev pub IsGivenFor : ℕ → Given → Type 0
IsGivenFor sub given = (given.sub ≡ sub) × IsEvent given.event × All IsPart given.parts
    × (0 < length given.parts)

-- an effect of a call with this reply, with all its lines
abbrev pub IsSomeEffectOf : Reply → Effect → Type 0
IsSomeEffectOf r effect = IsEffectOf effect r × ChangesSome effect

-- what is noted of a call with this reply, where notes stand or don't
abbrev pub IsNoteBy : Bool → Reply → Option Label → Type 0
IsNoteBy true r (Some label) = IsLabel label × (r ≢ reply.NoSuchUnit)
IsNoteBy true r None = r ≡ reply.NoSuchUnit
IsNoteBy false r note = note ≡ None

-- a reply as its line tells it
abbrev pub bare_of : Reply → Reply
bare_of (reply.Parts parts) = reply.Parts []
bare_of r = r

-- the reply of the line, with what a read shows
abbrev pub IsShownBy : Reply → Reply → Type 0
IsShownBy bare r = IsReply r × ShowsSome r × (bare ≡ bare_of r)

-- a whole entry, with its note where notes stand
abbrev pub IsWholeBy : Bool → Noted → Type 0
IsWholeBy true noted = IsWholeNoted noted
IsWholeBy false noted = IsWholeEntry noted.entry × (noted.contamination ≡ None)
