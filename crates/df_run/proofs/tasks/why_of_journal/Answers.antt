use Rattle.df_run.proofs.Names.{sym, subst, RefusesInput, Why}
use Rattle.df_run.proofs.Audits.{why_given}
use Rattle.df_run.proofs.Files.{why_blames}
use Rattle.df_run.proofs.tasks.why_of_journal.Goals as goal

pub returns-in-Ok-clause-gives : goal.returns-in-Ok-clause-gives
returns-in-Ok-clause-gives c journal =
    let audit = c.in-Ok.audit in
    why_given journal c.args.bytes.now audit.finding audit.text.items c.audited.result.end c.audited.result.text.items c.args.place
    c.in-Ok.ensures.tells c.audited.ensures.end c.audited.ensures.text

pub returns-in-Err-clause-refuses : goal.returns-in-Err-clause-refuses
returns-in-Err-clause-refuses c journal =
    subst (RefusesInput (Why journal c.args.place) c.args.bytes.now) (sym c.blamed_line.ensures)
    (why_blames journal c.args.place c.args.bytes.now c.in-Err.refused c.in-Err.ensures.refuses)
