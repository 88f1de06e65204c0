-- The journal of a script's calls is sound, and nothing was emitted into it.
use Rattle.std.proofs.Common.{List, map, reverse}
use Rattle.df_audit.proofs.Sound.{legal_is_sound}
use Rattle.df_audit.specs.Sound.{IsSound}
use Rattle.df_machine.specs.Journal.{firsts}
use Rattle.df_rules.proofs.Runs.{run_legal, run_unaided}
use Rattle.df_rules.specs.Legal.{IsUnaided}
use Rattle.df_rules.specs.Start.{rows}
use Rattle.df_start.specs.declared.start.RootStart.{RootStart}
use Rattle.df_script_text.specs.declared.line.ScriptLine.{ScriptLine}
use Rattle.df_steps.specs.Steps.{called, journal_of}

pub journal_is_sound : (begin : List RootStart) (lines : List ScriptLine) → IsSound (firsts begin) (journal_of begin lines)
journal_is_sound begin lines = legal_is_sound begin (journal_of begin lines) (run_legal rows (firsts begin) (reverse (map called lines)))

pub journal_is_unaided : (begin : List RootStart) (lines : List ScriptLine) → IsUnaided (journal_of begin lines)
journal_is_unaided begin lines = run_unaided rows (firsts begin) (reverse (map called lines))
