use Rattle.df_run.proofs.Names.{sym, subst, RefusesInput, Purge}
use Rattle.df_run.proofs.Audits.{purge_given}
use Rattle.df_run.proofs.Files.{purge_blames}
use Rattle.df_run.proofs.tasks.purge_of_journal.Goals as goal

pub returns-in-Ok-clause-gives : goal.returns-in-Ok-clause-gives
returns-in-Ok-clause-gives c journal =
    let audit = c.in-Ok.audit in
    purge_given journal c.args.bytes.now audit.finding audit.text.items c.audited.result.end c.audited.result.text.items c.args.label.now
    c.in-Ok.ensures.tells c.audited.ensures.end c.audited.ensures.text

pub returns-in-Err-clause-refuses : goal.returns-in-Err-clause-refuses
returns-in-Err-clause-refuses c journal =
    subst (RefusesInput (Purge c.args.label.now journal) c.args.bytes.now) (sym c.blamed_line.ensures)
    (purge_blames c.args.label.now journal c.args.bytes.now c.in-Err.refused c.in-Err.ensures.refuses)
