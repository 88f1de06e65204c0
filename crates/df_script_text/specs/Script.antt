-- Scripts, and how they are spelled.
use Rattle.std.specs.Prelude.{◌≡◌, ℕ, List, [], ◌∷◌, ◌++◌, codes, Result, Ok, Err}
use Rattle.std.specs.List.{All, flat_map}
use Rattle.df_lines.specs.declared.refused.FileRefused.{FileRefused}
use Rattle.df_lines.specs.declared.refused.FileRefused.TheVariants.{NoMemory}
use Rattle.df_journal_text.specs.Fits.{AreRoots, IsCall, IsUnit}
use Rattle.df_journal_text.specs.Line.{line}
use Rattle.df_journal_text.specs.Name.{unit_text}
use Rattle.df_journal_text.specs.Call.{call_words}
use Rattle.df_journal_text.specs.Start.{start_text}
use Rattle.df_start.specs.declared.start.RootStart.{RootStart}
use Rattle.df_script_text.specs.declared.line.ScriptLine.{ScriptLine}

-- the line of a call: who makes it, and its words
abbrev pub script_line : ScriptLine → List ℕ
script_line l = line (unit_text l.actor) (call_words l.call)

-- a script: the first line, the lines of the roots, `run`, and the lines of the calls
abbrev pub script_text : List RootStart → List ScriptLine → List ℕ
script_text roots lines = line (codes "defcon-script") (codes "1" ∷ []) ++ start_text roots
    ++ line (codes "run") [] ++ flat_map script_line lines

-- a line of a script: any call of any unit
abbrev pub IsScriptLine : ScriptLine → Type 0
IsScriptLine l = IsUnit l.actor × IsCall l.call

-- a script: its roots, and its calls
abbrev pub IsScript : List RootStart → List ScriptLine → Type 0
IsScript roots lines = AreRoots roots × All IsScriptLine lines

-- the bytes are the text of a script
abbrev pub IsScriptText : List ℕ → Type 0
IsScriptText bytes = (roots : List RootStart) × (lines : List ScriptLine) × IsScript roots lines
    × (bytes ≡ script_text roots lines)

-- what is answered is this script, unless there was no memory
abbrev pub IsReadScript : {X : Type 0} → (X → List RootStart × List ScriptLine) → List RootStart →
    List ScriptLine → Result X FileRefused → Type 0
IsReadScript view roots lines (Ok script) = view script ≡ (roots, lines)
IsReadScript view roots lines (Err e) = e ≡ NoMemory
