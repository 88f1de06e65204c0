use Rattle.df_audit.proofs.Reports.{second_told}
use Rattle.df_audit.proofs.check.checked_second.Goals as goal

pub returns-in-Wrong : goal.returns-in-Wrong
returns-in-Wrong c =
    let judges = rw c.in-Wrong.is at c.in_ok-check_noted.ensures.judges in
    second_told c.args.start.now c.in-Wrong.place c.args.notes.now c.in-Wrong.expected c.index-notes-place.result c.wrong-told.result judges c.index-notes-place.is
    c.wrong-told.ensures.finding c.wrong-told.ensures.text
