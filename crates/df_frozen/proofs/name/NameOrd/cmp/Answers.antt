use Rattle.std.proofs.Common.{sym, ◌∙◌}
use Rattle.std.specs.Cmp.{Equal-is}
use Rattle.std.specs.Ordering.{nat_cmp}
use Rattle.std.specs.Cmp.Lexicographic.{slice_cmp, texts_ties}
use Rattle.df_frozen.proofs.HeadOrder.{head_order}
use Rattle.df_frozen.proofs.name.NameOrd.cmp.Goals as goal

pub returns-in_default : goal.returns-in_default
returns-in_default c =
    head_order c.args.self.now c.args.other.now c.head.ensures.name c.head-2.ensures.name c.cmp.result
    (rw (c.head.ensures.value, c.head-2.ensures.value) at c.cmp.ensures) c.in_default.not-Equal

pub returns-in-Equal : goal.returns-in-Equal
returns-in-Equal c =
    let now = c.args.self.now in
    let other = c.args.other.now in
    sym ((Equal-is (slice_cmp nat_cmp now other)).0 (sym (texts_ties now other) ∙ sym c.eq.ensures ∙ c.if-eq.true))
