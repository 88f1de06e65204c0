use Rattle.df_lint.proofs.Names.{◌∙◌, arith, rows_of}
use Rattle.df_lint.proofs.CellRows.{length-rows_of}
use Rattle.df_lint.proofs.Growing.{extends_more, extends_none, seen_more}
use Rattle.df_lint.proofs.spread.settle_all.Goals as goal

pub loop-other-init : goal.loop-other-init
loop-other-init c = record {
  table = c.requires.table;
  extends = extends_none c.args.roots.now (rows_of c.args.tags.now c.args.rows.now.items) c.args.waiting.now.items;
  seen = λ m lt. absurd (omega arith);
}

pub loop-other-preserved : goal.loop-other-preserved
loop-other-preserved c =
    let roots = c.args.roots.now in
    let tags = c.args.tags.now in
    let before = c.loop-other.invariant in
    let at = rows_of tags c.loop-other.rows.items in
    let one = rows_of tags c.settle.new.rows.items in
    let two = rows_of tags c.settle-in-loop-other.new.rows.items in
    let both = seen_more roots c.args.root c.loop-other.other at c.loop-other.waiting.items one c.settle.new.waiting.items two c.settle-in-loop-other.new.waiting.items
    c.requires.root c.loop-other-test.true (length-rows_of tags c.loop-other.rows.items ∙ before.table.count) c.in_ok-settle.ensures.settles c.in_ok-settle-2.ensures.settles before.seen in
    record {
      table = c.in_ok-settle-2.ensures.table;
      extends = extends_more roots (rows_of tags c.args.rows.now.items) c.args.waiting.now.items at c.loop-other.waiting.items two c.settle-in-loop-other.new.waiting.items before.extends both.0;
      seen = both.1;
    }

pub returns-clause-seen : goal.returns-clause-seen
returns-clause-seen c = λ m lt. c.loop-other.invariant.seen m (omega arith)
