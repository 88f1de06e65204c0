-- What a script's start makes of lines on privileges.
use Rattle.std.specs.Prelude.{◌≡◌, ℕ, List, map}
use Rattle.df_lint.specs.LintText.{IsLintText}
use Rattle.df_script_text.specs.Script.{IsScript, script_text}
use Rattle.df_script_text.specs.declared.line.ScriptLine.{ScriptLine}
use Rattle.df_start.specs.Begun.{begun}
use Rattle.df_start.specs.declared.start.RootStart.{RootStart}

-- the bytes are the text of a script, and the text tells who may hold what from its start
abbrev pub LintsScript : List ℕ → List ℕ → Type 0
LintsScript bytes text =
    (roots : List RootStart) × (lines : List ScriptLine) × IsScript roots lines
    × (bytes ≡ script_text roots lines) × IsLintText (map begun roots) text
