use Rattle.df_run.proofs.Names.{◌≡◌, ◌-◌, List, length, HasRead}
use Rattle.df_script_text.specs.declared.line.ScriptLine.{ScriptLine}
use Rattle.df_steps.specs.code.Written.{IsWritten}
use Rattle.df_run.proofs.steps.journal_of.Given as goal

-- the lines that were read are those of the journal and its text
abbrev pub invariant-lines : goal.invariant-lines
invariant-lines l =
    (past : List ScriptLine) × HasRead l.fn.start past l.reader × IsWritten l.fn.start past l.tables l.text.items × (l.reader.bytes ≡ l.fn.reader.bytes)

abbrev pub decreases-lines : goal.decreases-lines
decreases-lines l = length l.reader.bytes - l.reader.place
