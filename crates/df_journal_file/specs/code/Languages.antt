-- What may stand in a journal from a place on: the rest of an entry, further entries and an end.
use Rattle.std.specs.Prelude.{◌≡◌, ℕ, ◌+◌, ◌<◌, Bool, false, List, [], ◌++◌, length, codes, ◌⊎◌}
use Rattle.std.specs.List.{All, flat_map}
use Rattle.df_script_text.specs.code.Languages as script
use Rattle.df_unit.specs.declared.call.Call.{Call}
use Rattle.df_unit.specs.declared.entry.Noted.{Noted}
use Rattle.df_unit.specs.declared.name.UnitName.{UnitName}
use Rattle.df_unit.specs.declared.parts.PartRead.{PartRead}
use Rattle.df_unit.specs.declared.reply.Reply.{Reply}
use Rattle.df_unit.specs.declared.reply.Reply.TheVariants as reply
use Rattle.df_value_text.specs.Fits.{IsLabel}
use Rattle.df_journal_text.specs.Entry.{call_line, noted_text, part_line, read_line, spot_line}
use Rattle.df_journal_text.specs.Fits.{IsCalled, IsEvent, IsPart, IsPartRead, IsSpot}
use Rattle.df_journal_file.specs.Below.{event_line, note_line}
use Rattle.df_journal_file.specs.Journal.{EndsFile}
use Rattle.df_journal_file.specs.code.Entries.{IsWholeBy}

-- a line, and what may stand behind it
abbrev pub Then : {X : Type 0} → (X → List ℕ) → (X → Type 0) → (List ℕ → Type 0) → List ℕ → Type 0
Then {X} text Fits Rest s = (x : X) × (rest : List ℕ) × Fits x × Rest rest × (s ≡ text x ++ rest)

-- as many lines as there are, so many of which stand in front, and what may stand behind them all
abbrev pub Many : {X : Type 0} → (X → List ℕ) → (X → Type 0) → (ℕ → List ℕ → Type 0) → ℕ →
    List ℕ → Type 0
Many {X} text Fits Rest n s = (xs : List X) × (rest : List ℕ) × All Fits xs
    × Rest (n + length xs) rest × (s ≡ flat_map text xs ++ rest)

-- what may stand behind some lines
abbrev pub BehindSome : (List ℕ → Type 0) → ℕ → List ℕ → Type 0
BehindSome Rest n s = (0 < n) × Rest s

-- ---- entries

-- whole entries, and an end
abbrev pub EntriesFrom : Bool → List ℕ → Type 0
EntriesFrom has s = (noted : List Noted) × (end : List ℕ) × All (IsWholeBy has) noted
    × EndsFile end × (s ≡ flat_map noted_text noted ++ end)

-- what a commit adds, where so many lines of its edit stand in front
abbrev pub AddsFrom : Bool → ℕ → List ℕ → Type 0
AddsFrom has n s = Many (part_line (codes "+")) IsPart (BehindSome (EntriesFrom has)) n s

-- what a commit deletes and adds
abbrev pub EditFrom : Bool → ℕ → List ℕ → Type 0
EditFrom has n s = Many spot_line IsSpot (AddsFrom has) n s

-- a commit behind a mark
abbrev pub CommitFrom : Bool → List ℕ → List ℕ → Type 0
CommitFrom has mark s = Then (event_line mark) IsEvent (EditFrom has 0) s

-- the parts of an event that was handed over
abbrev pub GivenFrom : Bool → ℕ → List ℕ → Type 0
GivenFrom has n s = Many (part_line (codes ".")) IsPart (BehindSome (EntriesFrom has)) n s

-- an event that was handed over
abbrev pub HandedFrom : Bool → List ℕ → Type 0
HandedFrom has s = Then (event_line (codes "<")) IsEvent (GivenFrom has 0) s

-- the reply hands an event over
abbrev pub IsHanding : Reply → Type 0
IsHanding r = (h : ℕ) × (sub : ℕ) × (r ≡ reply.Event h sub)

-- an effect of a call with this reply
abbrev pub EffectFrom : Bool → Reply → List ℕ → Type 0
EffectFrom has r s = EntriesFrom has s
    ⊎ (CommitFrom has (codes "=") s ⊎ (IsHanding r × HandedFrom has s))

-- what a read shows, where so many lines of it stand in front
abbrev pub ReadFrom : Bool → ℕ → List ℕ → Type 0
ReadFrom has n s = Many read_line IsPartRead (BehindSome (EffectFrom has (reply.Parts []))) n s

-- the reply shows nothing
abbrev pub ShowsNone : Reply → Type 0
ShowsNone r = (parts : List PartRead) → r ≡ reply.Parts parts → ⊥

-- what the reply of the line shows
abbrev pub ShownFrom : Bool → Reply → List ℕ → Type 0
ShownFrom has bare s = (ShowsNone bare × EffectFrom has bare s)
    ⊎ ((bare ≡ reply.Parts []) × ReadFrom has 0 s)

-- no contamination is noted
abbrev pub NotesNone : Bool → Reply → Type 0
NotesNone has bare = (has ≡ false) ⊎ (bare ≡ reply.NoSuchUnit)

-- the contamination that is noted of a call with this reply
abbrev pub NoteFrom : Bool → Reply → List ℕ → Type 0
NoteFrom has bare s = (NotesNone has bare × ShownFrom has bare s)
    ⊎ ((¬ NotesNone has bare) × Then note_line IsLabel (ShownFrom has bare) s)

-- an entry of a unit
abbrev pub DoneFrom : Bool → List ℕ → Type 0
DoneFrom has s = (c : UnitName × Call × Reply) × (rest : List ℕ) × IsCalled c
    × NoteFrom has c.2 rest × (s ≡ call_line c.0 c.1 c.2 ++ rest)

-- ---- heads

-- the lines of roots, of which the first has this number, the line `run`, and entries
abbrev pub HeadFrom : Bool → ℕ → List ℕ → Type 0
HeadFrom has n s = script.HeadFrom (EntriesFrom has) n s
