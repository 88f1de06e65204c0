use Rattle.df_value_text.proofs.Joins.{item_appended}
use Rattle.df_filter_text.specs.Filter.{clause_text}
use Rattle.df_filter_text.proofs.write.append_filter.Goals as goal

pub loop-i-preserved : goal.loop-i-preserved
loop-i-preserved c =
    item_appended 38 clause_text _ c.loop-i.i c.clause-item.result c.clause-item.result c.loop-i-test.true c.clause-item.is _ _ _ _ c.loop-i.invariant
    c.in_ok-append_separator.ensures c.in_ok-append_clause.ensures
