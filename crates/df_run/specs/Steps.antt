-- A script's calls, made as they are read.
use Rattle.std.specs.Prelude.{◌≡◌, ◌<◌, ◌≤◌, ℕ, Bool, true, List, length, Result, IfErr, IfOk}
use Rattle.df_lines.specs.Refused.{NamesBadLine}
use Rattle.df_lines.specs.declared.refused.FileRefused.{FileRefused}
use Rattle.df_machine.specs.declared.tables.Tables.{Tables}
use Rattle.df_script_text.specs.Reader.{HasRead, ReaderState}
use Rattle.df_script_text.specs.Script.{IsScriptText}
use Rattle.df_script_text.specs.TooLarge.{IsTooLargeIn}
use Rattle.df_script_text.specs.declared.line.ScriptLine.{ScriptLine}
use Rattle.df_start.specs.declared.start.RootStart.{RootStart}
use Rattle.df_steps.specs.code.Written.{IsWritten, WritesOn}

-- the lines that were read are made, and the text of their journal is written
abbrev pub AreMade : List RootStart → List ScriptLine → ReaderState → Tables → List ℕ → Type 0
AreMade roots lines reader tables text =
    HasRead roots lines reader × IsWritten roots lines tables text

-- some lines are
abbrev pub IsUnderWay : ReaderState → Tables → List ℕ → Type 0
IsUnderWay reader tables text = (roots : List RootStart) × (lines : List ScriptLine)
    × AreMade roots lines reader tables text

-- the next line was read, made and written, or there is none, or it is bad
pub record AppendsNext (old new : ReaderState) (before after : Tables) (text written : List ℕ)
    (result : Result Bool FileRefused) : Type 0 where
  pub written_on : IfOk result (λ more. (roots : List RootStart) (lines : List ScriptLine) →
      AreMade roots lines old before text → WritesOn roots lines more new after written)
  pub further : IfOk result (λ more. more ≡ true → old.place < new.place)
  pub within : new.place ≤ length new.bytes
  pub bytes : new.bytes ≡ old.bytes
  pub refused : IfErr result (λ e. (roots : List RootStart) (lines : List ScriptLine) →
      HasRead roots lines old → NamesBadLine IsScriptText IsTooLargeIn old.bytes e)
