use Rattle.df_audit.proofs.Names.{List, IfOk, sym, subst, Noted, AreRight, ExplainsNoted, journal_in}
use Rattle.df_audit.specs.declared.right.Noting.TheVariants as noting
use Rattle.df_audit.proofs.Told.{knows}
use Rattle.df_audit.proofs.Grounds.{why_ok}
use Rattle.df_audit.proofs.why.explained.Goals as goal

pub explain_noted-requires : goal.explain_noted-requires
explain_noted-requires c =
    let start = c.in-Noted.start in
    let given = rw c.in-Noted.is at c.in_ok-start.ensures in
    let k = knows (journal_in c.args.journal) (noting.Noted start c.in-Noted.notes) given in
    subst (AreRight start) (sym c.as_slice.ensures.value) k.are

pub returns-in-Noted : goal.returns-in-Noted
returns-in-Noted c =
    let start = c.in-Noted.start in
    let given = rw c.in-Noted.is at c.in_ok-start.ensures in
    let k = knows (journal_in c.args.journal) (noting.Noted start c.in-Noted.notes) given in
    let told = subst (λ (ns : List Noted). IfOk c.explain_noted.result (λ a. ExplainsNoted c.args.place start ns a.finding a.text.items))
    c.as_slice.ensures.value c.explain_noted.ensures in
    why_ok (journal_in c.args.journal) start c.in-Noted.notes.items k c.args.place c.explain_noted.result told
