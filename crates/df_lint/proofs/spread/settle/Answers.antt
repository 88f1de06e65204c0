use Rattle.df_lint.proofs.Names.{rows_of}
use Rattle.df_lint.proofs.Growing.{settle_push}
use Rattle.df_lint.proofs.spread.settle.Goals as goal

pub returns-in_ok-push-clause-settles : goal.returns-in_ok-push-clause-settles
returns-in_ok-push-clause-settles c = settle_push c.args.roots.now c.args.from c.args.to (rows_of c.args.tags.now c.args.rows.now.items) (rows_of c.args.tags.now c.settle_row.new.rows.items) c.args.waiting.now.items c.push.new.self.items c.requires.to c.in_ok-settle_row.ensures.rows c.in_ok-settle_row.ensures.passed (c.in_ok-settle_row.ensures.gains c.if-branch.true) c.in_ok-push.ensures.items
