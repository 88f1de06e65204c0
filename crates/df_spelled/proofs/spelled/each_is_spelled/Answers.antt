use Rattle.df_spelled.proofs.Walks.{each_more}
use Rattle.df_spelled.proofs.spelled.each_is_spelled.Goals as goal

pub loop-thing-preserved : goal.loop-thing-preserved
loop-thing-preserved g c = each_more g.T.Spelled.fits c.args.things.now c.loop-thing.thing-index c.thing-item.result c.thing-item.is c.loop-thing-test.true
    c.is_spelled.ensures c.loop-thing.invariant
