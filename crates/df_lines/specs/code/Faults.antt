-- Where reading a file stops, by places.
use Rattle.std.specs.Prelude.{◌≡◌, ℕ, ◌+◌, ◌<◌, ◌≤◌, List, ◌∷◌, ◌++◌, length, take, drop, count_by, ◌==◌, Option, Some, None, ⊤}
use Rattle.df_lines.specs.Lines.{IsLine}
use Rattle.df_lines.specs.declared.fault.FileFault.{FileFault}
use Rattle.df_lines.specs.declared.fault.FileFault.TheVariants as fault
use Rattle.df_lines.specs.declared.refused.FileRefused.{FileRefused}
use Rattle.df_lines.specs.declared.refused.FileRefused.TheVariants as refused

-- the line at the place, and the place behind its line feed; nothing, where no line feed is left
abbrev pub TellsLine : List ℕ → ℕ → Option (List ℕ × ℕ) → Type 0
TellsLine bytes at None = IsLine (drop at bytes)
TellsLine bytes at (Some line) = IsLine line.0 × (at < line.1) × (line.1 ≤ length bytes)
    × (drop at bytes ≡ line.0 ++ 10 ∷ drop line.1 bytes)

-- the number of the line in which the place lies
abbrev pub line_number : List ℕ → ℕ → ℕ
line_number bytes place = count_by (λ b. b == 10) (take place bytes) + 1

-- the fault's place lies in the bytes
abbrev pub IsInside : List ℕ → FileFault → Type 0
IsInside bytes fault.NoMemory = ⊤
IsInside bytes (fault.Bad place) = place ≤ length bytes
IsInside bytes (fault.TooLarge place) = place ≤ length bytes

-- a fault as it is told to callers
abbrev pub refusal : List ℕ → FileFault → FileRefused
refusal bytes fault.NoMemory = refused.NoMemory
refusal bytes (fault.Bad place) = refused.Syntax (line_number bytes place)
refusal bytes (fault.TooLarge place) = refused.TooLarge (line_number bytes place)
