use Rattle.df_check.proofs.Names.{ap, Noted}
use Rattle.df_check.proofs.plain.other_entry.Goals as goal

pub returns-in-Same-clause-made : goal.returns-in-Same-clause-made
returns-in-Same-clause-made c core agrees = c.in_ok-compare.ensures.made core agrees

pub returns-in-Same-clause-other : goal.returns-in-Same-clause-other
returns-in-Same-clause-other c core agrees = (rw c.in-Same.is at (c.in_ok-compare.ensures.compares core agrees)).0

pub returns-clause-other : goal.returns-clause-other
returns-clause-other c core agrees =
    let tells = rw c.in-Other.is at (c.in_ok-compare.ensures.compares core agrees) in
    (ap (λ (n : Noted). n.entry) tells.0, tells.1)
