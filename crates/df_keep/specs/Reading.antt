-- How a script is read.
use Rattle.std.specs.Prelude.{◌≡◌, ⊤, ℕ, ◌<◌, List, length, Option, IfSome, Result, Ok, Err}
use Rattle.df_io.specs.Faults.{Rose}
use Rattle.df_io.specs.Limits.{longest_file}
use Rattle.df_keep.specs.Outcome.{IsCutOff}
use Rattle.df_keep.specs.Script.{WasRead}
use Rattle.df_keep.specs.declared.script.Script.{Script}
use Rattle.df_keep.specs.declared.status.KeepStatus.{KeepStatus}
use Rattle.df_keep.specs.declared.status.KeepStatus.TheVariants as status
use Rattle.df_lines.specs.Kinds.{refused_line}
use Rattle.df_lines.specs.Refused.{NamesBadLine}
use Rattle.df_lines.specs.declared.refused.BadKind.TheVariants.{Syntax, TooLarge}
use Rattle.df_lines.specs.declared.refused.FileRefused.{FileRefused}
use Rattle.df_lines.specs.declared.refused.FileRefused.TheVariants as refused
use Rattle.df_script_text.specs.Script.{IsScriptText}
use Rattle.df_script_text.specs.TooLarge.{IsTooLargeIn}
use Rattle.df_script_text.specs.declared.line.ScriptLine.{ScriptLine}
use Rattle.df_start.specs.declared.start.RootStart.{RootStart}

-- how a run ends where its script is refused
abbrev pub blamed : FileRefused → KeepStatus
blamed (refused.Syntax line) = status.BadInput 1 line Syntax
blamed (refused.TooLarge line) = status.BadInput 1 line TooLarge
blamed refused.NoMemory = status.NoMemory

-- the bytes are no script, and the status names their first bad line; or memory was wanting
abbrev pub IsBlamed : List ℕ → KeepStatus → Type 0
IsBlamed bytes (status.BadInput input line kind) =
    (input ≡ 1) × NamesBadLine IsScriptText IsTooLargeIn bytes (refused_line line kind)
IsBlamed bytes status.NoMemory = ⊤
IsBlamed bytes _ = ⊥

-- why no script was read
abbrev pub StopsReading : Option (List ℕ) → ℕ → ℕ → KeepStatus → Type 0
StopsReading told before now (status.BadInput input line kind) = (bytes : List ℕ)
    × WasRead told bytes × IsBlamed bytes (status.BadInput input line kind)
StopsReading told before now status.ReadFault = Rose before now
StopsReading told before now (status.TooLong input) =
    (input ≡ 1) × IfSome told (λ bytes. longest_file < length bytes)
StopsReading told before now status.NoMemory = ⊤
StopsReading told before now _ = ⊥

-- this script was read, unless there was a fault or no memory
abbrev pub IsReadAs : List RootStart → List ScriptLine → Result Script KeepStatus → Type 0
IsReadAs roots lines (Ok script) = (script.start ≡ roots) × (script.lines.items ≡ lines)
IsReadAs roots lines (Err result) = IsCutOff result
