use Rattle.df_audit.proofs.Reports.{first_told}
use Rattle.df_audit.proofs.check.checked_first.Goals as goal

pub returns-in-Wrong : goal.returns-in-Wrong
returns-in-Wrong c =
    let judges = rw c.in-Wrong.is at c.in_ok-check.ensures.judges in
    first_told c.args.start.now c.in-Wrong.place c.args.entries.now c.in-Wrong.expected c.index-entries-place.result c.wrong-told.result judges
    c.index-entries-place.is c.wrong-told.ensures.finding c.wrong-told.ensures.text
