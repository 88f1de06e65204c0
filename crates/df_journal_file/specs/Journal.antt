-- Whole journals in both versions.
use Rattle.std.specs.Prelude.{◌≡◌, ◌≢◌, ℕ, ◌<◌, ◌+◌, List, [], ◌∷◌, ◌++◌, length, codes, Option, Some, None, Result, Ok, Err, ⊤, ◌⊎◌}
use Rattle.std.specs.List.{All, flat_map}
use Rattle.df_label.specs.declared.label.Label.{Label}
use Rattle.df_lines.specs.declared.refused.FileRefused.{FileRefused}
use Rattle.df_lines.specs.declared.refused.FileRefused.TheVariants.{NoMemory}
use Rattle.df_part.specs.declared.part.Part.{Part}
use Rattle.df_part.specs.declared.edit.Spot.{Spot}
use Rattle.df_start.specs.declared.start.RootStart.{RootStart}
use Rattle.df_unit.specs.declared.reply.Reply.{Reply}
use Rattle.df_unit.specs.declared.reply.Reply.TheVariants as reply
use Rattle.df_unit.specs.declared.entry.Effect.{Effect}
use Rattle.df_unit.specs.declared.entry.Effect.TheVariants as effect
use Rattle.df_unit.specs.declared.entry.Entry.{Entry}
use Rattle.df_unit.specs.declared.entry.Entry.TheVariants.{Done, Emitted}
use Rattle.df_unit.specs.declared.entry.Noted.{Noted}
use Rattle.df_journal_text.specs.Entry.{entry_text}
use Rattle.df_journal_text.specs.Fits.{AreRoots, IsEntry, IsNoted}
use Rattle.df_journal_text.specs.Line.{line}
use Rattle.df_journal_text.specs.Start.{journal_text, start_text}

-- ---- entries with all their lines

-- a read that shows parts shows at least one
abbrev pub ShowsSome : Reply → Type 0
ShowsSome (reply.Parts parts) = 0 < length parts
ShowsSome _ = ⊤

-- a commit deletes or adds
abbrev pub EditsSome : List Spot × List Part → Type 0
EditsSome edit = 0 < length edit.0 + length edit.1

-- an effect has lines behind its first
abbrev pub ChangesSome : Effect → Type 0
ChangesSome effect.Nothing = ⊤
ChangesSome (effect.Commit commit) = EditsSome commit.edit
ChangesSome (effect.Given given) = 0 < length given.parts

-- each line of the entry that must have others below it has them
abbrev pub HasLines : Entry → Type 0
HasLines (Done actor call r effect) = ShowsSome r × ChangesSome effect
HasLines (Emitted commit) = EditsSome commit.edit

-- a contamination is noted of a unit that exists, and nothing of others
abbrev pub HasNote : Reply → Option Label → Type 0
HasNote r (Some label) = r ≢ reply.NoSuchUnit
HasNote r None = r ≡ reply.NoSuchUnit

-- the same of an entry; nothing is noted of what the world emitted
abbrev pub HasNoteOf : Entry → Option Label → Type 0
HasNoteOf (Done actor call r effect) note = HasNote r note
HasNoteOf (Emitted commit) note = note ≡ None

-- an entry of a journal in its first version
abbrev pub IsWholeEntry : Entry → Type 0
IsWholeEntry entry = IsEntry entry × HasLines entry

-- an entry of a journal in its second version
abbrev pub IsWholeNoted : Noted → Type 0
IsWholeNoted noted = IsNoted noted × HasLines noted.entry
    × HasNoteOf noted.entry noted.contamination

-- ---- journals

-- a journal in its first version: its roots, and its entries
abbrev pub IsPlainJournal : List RootStart → List Entry → Type 0
IsPlainJournal roots entries = AreRoots roots × All IsWholeEntry entries

-- a journal in its second version
abbrev pub IsNotedJournal : List RootStart → List Noted → Type 0
IsNotedJournal roots noted = AreRoots roots × All IsWholeNoted noted

-- the text of a journal in its first version
abbrev pub plain_text : List RootStart → List Entry → List ℕ
plain_text roots entries = line (codes "defcon-journal") (codes "1" ∷ []) ++ start_text roots
    ++ line (codes "run") [] ++ flat_map (λ e. entry_text None e) entries

-- nothing stands behind the entries, or the line `---` and anything
abbrev pub EndsFile : List ℕ → Type 0
EndsFile end = (end ≡ []) ⊎ ((more : List ℕ) × (end ≡ line (codes "---") [] ++ more))

-- the bytes are a journal in its first version
abbrev pub IsPlainText : List ℕ → Type 0
IsPlainText bytes = (roots : List RootStart) × (entries : List Entry) × (end : List ℕ)
    × IsPlainJournal roots entries × EndsFile end × (bytes ≡ plain_text roots entries ++ end)

-- the bytes are a journal in its second version
abbrev pub IsNotedText : List ℕ → Type 0
IsNotedText bytes = (roots : List RootStart) × (noted : List Noted) × (end : List ℕ)
    × IsNotedJournal roots noted × EndsFile end × (bytes ≡ journal_text roots noted ++ end)

-- what is answered is so, unless there was no memory
abbrev pub IsRead : {X : Type 0} → (X → Type 0) → Result X FileRefused → Type 0
IsRead Is (Ok x) = Is x
IsRead Is (Err e) = e ≡ NoMemory
