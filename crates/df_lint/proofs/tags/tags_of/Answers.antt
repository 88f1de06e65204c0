use Rattle.df_lint.proofs.Steps.{names_more}
use Rattle.df_lint.proofs.tags.tags_of.Goals as goal

pub loop-root-preserved : goal.loop-root-preserved
loop-root-preserved c = names_more c.loop-root.tags c.in_ok-tags.tags c.args.roots.now c.loop-root.root-index c.root-item.result c.loop-root-test.true c.root-item.is c.in_ok-tags.ensures c.loop-root.invariant
