use Rattle.df_run.proofs.Names.{sym, subst, RefusesInput, Check}
use Rattle.df_run.proofs.Audits.{check_given}
use Rattle.df_run.proofs.Files.{check_blames}
use Rattle.df_run.proofs.tasks.check_of_journal.Goals as goal

pub returns-in-Ok-clause-gives : goal.returns-in-Ok-clause-gives
returns-in-Ok-clause-gives c journal = check_given journal c.args.bytes.now c.in-Ok.audit.finding c.in-Ok.audit.text.items c.audited.result.end
    c.audited.result.text.items c.in-Ok.ensures.tells c.audited.ensures.end c.audited.ensures.text

pub returns-in-Err-clause-refuses : goal.returns-in-Err-clause-refuses
returns-in-Err-clause-refuses c journal = subst (RefusesInput (Check journal) c.args.bytes.now) (sym c.blamed_line.ensures)
    (check_blames journal c.args.bytes.now c.in-Err.refused c.in-Err.ensures.refuses)
