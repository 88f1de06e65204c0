use Rattle.df_audit.proofs.Names.{◌≡◌, List, IfOk, subst, Noted, journal_text, journal_in}
use Rattle.df_audit.specs.declared.right.Noting.TheVariants as noting
use Rattle.df_audit.proofs.Told.{knows, upgrade_ok}
use Rattle.df_audit.proofs.right.upgraded.Goals as goal

pub returns-in-Noted : goal.returns-in-Noted
returns-in-Noted c =
    let start = c.in-Noted.start in
    let given = rw c.in-Noted.is at c.in_ok-start.ensures in
    let k = knows (journal_in c.args.journal) (noting.Noted start c.in-Noted.notes) given in
    let text = subst (λ (ns : List Noted). IfOk c.told.result (λ a. a.text.items ≡ journal_text start ns)) c.as_slice.ensures.value c.told.ensures.text in
    upgrade_ok (journal_in c.args.journal) start c.in-Noted.notes.items k c.told.result c.told.ensures.finding text
