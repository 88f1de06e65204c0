use Rattle.std.proofs.Common.{decimal}
use Rattle.df_label.proofs.Joins.{item_appended}
use Rattle.df_label.proofs.spelling.append_path.Goals as goal

pub loop-i-preserved : goal.loop-i-preserved
loop-i-preserved c =
    item_appended 46 decimal c.args.numbers.now c.loop-i.i 0 c.from.result c.loop-i-test.true c.from.ensures _ _ _ _ c.loop-i.invariant c.in_ok-append_separator.ensures c.in_ok-append_number.ensures
