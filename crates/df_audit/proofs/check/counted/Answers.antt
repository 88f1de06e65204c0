use Rattle.df_audit.proofs.Names.{◌∙◌}
use Rattle.df_audit.proofs.Passes.{count_checked}
use Rattle.df_audit.proofs.check.counted.Goals as goal

pub returns : goal.returns
returns c =
    let made = rw c.in-Some.is at c.in_ok-made.ensures in
    rw (c.leaving.ensures.finding ∙ c.in_ok-audit.ensures.finding, c.leaving.ensures.text)
    (made.0, made.1, count_checked made.0 c.in-Some.made.count c.in-Some.made.text.items _ made.2 c.in_ok-audit.ensures.text)
