use Rattle.df_run.proofs.Names.{sym, subst, RefusesInput, Steps}
use Rattle.df_run.proofs.Files.{run_blames}
use Rattle.df_run.proofs.tasks.journal_of_script.Goals as goal

pub returns-in-Err-clause-refuses : goal.returns-in-Err-clause-refuses
returns-in-Err-clause-refuses c file = subst (RefusesInput (Steps file) c.args.bytes.now) (sym c.blamed_line.ensures)
    (run_blames file c.args.bytes.now c.in-Err.refused c.in-Err.ensures.refuses)
