use Rattle.df_auction.proofs.Ranges.{file_in_range}
use Rattle.df_auction.proofs.orders.read_orders.Goals as goal

pub returns-in-Ok-clause-in_range : goal.returns-in-Ok-clause-in_range
returns-in-Ok-clause-in_range c = file_in_range c.args.bytes.now c.in-Ok.orders.items c.in-Ok.ensures.read
