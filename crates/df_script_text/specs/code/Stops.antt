-- What was read of a script up to a place, and why reading stops there.
use Rattle.std.specs.Prelude.{◌≡◌, ℕ, ◌+◌, ◌<◌, ◌≤◌, ◌^◌, List, ◌++◌, length, drop, codes, Option, Some, None, ⊤, ◌⊎◌}
use Rattle.std.specs.List.{All}
use Rattle.df_lines.specs.Lines.{ended, lines_text}
use Rattle.df_lines.specs.code.Faults.{TellsLine}
use Rattle.df_lines.specs.code.Stops.{StopsAt}
use Rattle.df_lines.specs.declared.fault.FileFault.{FileFault}
use Rattle.df_lines.specs.declared.fault.FileFault.TheVariants as fault
use Rattle.df_journal_text.specs.Fits.{IsRoot}
use Rattle.df_journal_text.specs.Large.{IsLargeCalled}
use Rattle.df_journal_text.specs.Start.{root_text}
use Rattle.df_journal_text.specs.declared.line_fault.LineFault.{LineFault}
use Rattle.df_journal_text.specs.declared.line_fault.LineFault.TheVariants as line_fault
use Rattle.df_start.specs.declared.start.RootStart.{RootStart}
use Rattle.df_script_text.specs.Script.{IsScriptLine}
use Rattle.df_script_text.specs.code.Lines.{call_line, numbered}
use Rattle.df_script_text.specs.declared.line.ScriptLine.{ScriptLine}

-- ---- calls

-- the line of a call
abbrev pub IsCallLine : List ℕ → Type 0
IsCallLine line = (l : ScriptLine) × IsScriptLine l × (line ≡ call_line l)

-- why no call is read at the place
abbrev pub StopsCall : List ℕ → ℕ → FileFault → Type 0
StopsCall bytes at fault.NoMemory = ⊤
StopsCall bytes at (fault.Bad place) = (place ≡ at) × (at < length bytes)
    × ((bad : List ℕ) × StopsAt IsCallLine (drop at bytes) bad × ¬ IsLargeCalled bad)
StopsCall bytes at (fault.TooLarge place) = (place ≡ at) × (at < length bytes)
    × ((bad : List ℕ) × StopsAt IsCallLine (drop at bytes) bad × IsLargeCalled bad)

-- why nothing is read at the place, where this came of its line
abbrev pub fault_of : ℕ → LineFault → FileFault
fault_of at line_fault.Syntax = fault.Bad at
fault_of at line_fault.TooLarge = fault.TooLarge at
fault_of at line_fault.NoMemory = fault.NoMemory

-- the line at the place, and the place behind it; nothing, where no byte is left
abbrev pub TellsWords : List ℕ → ℕ → Option (List ℕ × ℕ) → Type 0
TellsWords bytes at None = at ≡ length bytes
TellsWords bytes at (Some line) = TellsLine bytes at (Some line)

-- ---- roots

-- the line `run`, or that of the root of this number
abbrev pub IsHeadLine : ℕ → List ℕ → Type 0
IsHeadLine number line = (line ≡ codes "run") ⊎ ((number + 1 < 2 ^ 32)
    × ((root : RootStart) × IsRoot root × (line ≡ root_text number root)))

-- why no root of this number is read at the place
abbrev pub StopsRoot : ℕ → List ℕ → ℕ → FileFault → Type 0
StopsRoot number bytes at fault.NoMemory = ⊤
StopsRoot number bytes at (fault.Bad place) = (place ≡ at)
    × ((bad : List ℕ) × StopsAt (IsHeadLine number) (drop at bytes) bad)
StopsRoot number bytes at (fault.TooLarge place) = ⊥

-- the root in the line at the place, and the place behind it; nothing, where the line is `run`
abbrev pub TellsRoot : ℕ → List ℕ → ℕ → Option (RootStart × ℕ) → Type 0
TellsRoot number bytes at None = (at + 4 ≤ length bytes)
    × (drop at bytes ≡ ended (codes "run") ++ drop (at + 4) bytes)
TellsRoot number bytes at (Some read) = (number + 1 < 2 ^ 32) × (at < read.1)
    × (read.1 ≤ length bytes) × IsRoot read.0
    × (drop at bytes ≡ ended (root_text number read.0) ++ drop read.1 bytes)

-- from one place to the other stand the lines of these roots
pub record ArePassed (bytes : List ℕ) (at : ℕ) (roots : List RootStart) (place : ℕ) : Type 0 where
  pub inside : place ≤ length bytes
  pub few : length roots < 2 ^ 32
  pub fit : All IsRoot roots
  pub text : drop at bytes ≡ lines_text (numbered root_text 0 roots) ++ drop place bytes

-- why no further root is read, and no line `run`
abbrev pub RootsStop : List ℕ → ℕ → FileFault → Type 0
RootsStop bytes at f = (roots : List RootStart) × (place : ℕ) × ArePassed bytes at roots place
    × StopsRoot (length roots) bytes place f

-- these roots stand at the place, and the line `run` behind them, up to the other place
pub record AreRootsAt (bytes : List ℕ) (at : ℕ) (roots : List RootStart) (end : ℕ) : Type 0 where
  pub place : ℕ
  pub passed : ArePassed bytes at roots place
  pub inside : end ≤ length bytes
  pub run : drop place bytes ≡ ended (codes "run") ++ drop end bytes

-- ---- the first line

-- why the first line isn't that of a script
abbrev pub StopsFirst : List ℕ → FileFault → Type 0
StopsFirst bytes fault.NoMemory = ⊤
StopsFirst bytes (fault.Bad place) = (place ≡ 0)
    × ((bad : List ℕ) × StopsAt (λ line. line ≡ codes "defcon-script 1") bytes bad)
StopsFirst bytes (fault.TooLarge place) = ⊥

-- the first line stands in front of the place
abbrev pub IsFirstAt : List ℕ → ℕ → Type 0
IsFirstAt bytes place = (place ≤ length bytes)
    × (bytes ≡ ended (codes "defcon-script 1") ++ drop place bytes)
