use Rattle.df_run.proofs.Names.{sym, subst, RefusesInput, Lint}
use Rattle.df_run.proofs.Files.{lint_blames}
use Rattle.df_run.proofs.tasks.lint_of_script.Goals as goal

pub returns-in-Err-clause-refuses : goal.returns-in-Err-clause-refuses
returns-in-Err-clause-refuses c script = subst (RefusesInput (Lint script) c.args.bytes.now) (sym c.blamed_line.ensures)
    (lint_blames script c.args.bytes.now c.in-Err.refused c.in-Err.ensures.refuses)
