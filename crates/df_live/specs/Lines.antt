-- Lines that come one at a time.
use Rattle.std.specs.Prelude.{ℕ, List, Option, Result, Ok, Err}
use Rattle.std.specs.Io.KnownBytes.{Consumes, IsAtEnd}
use Rattle.df_lines.specs.Lines.{ended}
use Rattle.df_live.specs.declared.lines.Taken.{Taken}
use Rattle.df_live.specs.declared.lines.Taken.TheVariants as taken

-- what the source loses: a line and its line feed, or all that is left of it
abbrev pub TakesAs : Option (List ℕ) → Option (List ℕ) → List ℕ → Taken → Type 0
TakesAs before after line taken.Line = Consumes before after (ended line)
TakesAs before after line taken.End = Consumes before after line × IsAtEnd after

-- the same; or, where none is taken, the front of a line
abbrev pub Takes : {E : Type 0} → Option (List ℕ) → Option (List ℕ) → List ℕ → Result Taken E →
    Type 0
Takes before after line (Ok t) = TakesAs before after line t
Takes before after line (Err e) = Consumes before after line
