use Rattle.df_audit.proofs.Names.{◌≡◌, List, IfOk, subst, firsts, purge, rows, Noted, AreRight, noted, past_of, journal_text, journal_in}
use Rattle.df_audit.specs.declared.right.Noting.TheVariants as noting
use Rattle.df_audit.proofs.Told.{knows, purge_ok}
use Rattle.df_audit.proofs.right.purged.Goals as goal

pub returns : goal.returns
returns c =
    let start = c.in-Noted.start in
    let given = rw c.in-Noted.is at c.in_ok-start.ensures in
    let k = knows (journal_in c.args.journal) (noting.Noted start c.in-Noted.notes) given in
    let left = subst (λ (ns : List Noted). AreRight start ns → c.in_ok-left.left.items ≡ noted start
    (purge rows (firsts start) c.args.label.now (past_of ns))) c.as_slice.ensures.value (c.in_ok-left.ensures start) k.are in
    let text = subst (λ (ns : List Noted). IfOk c.told.result (λ a. a.text.items ≡ journal_text start ns)) c.as_slice-2.ensures.value c.told.ensures.text in
    purge_ok (journal_in c.args.journal) start c.in-Noted.notes.items k c.args.label.now c.in_ok-left.left.items c.told.result left c.told.ensures.finding text
