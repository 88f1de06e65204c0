use Rattle.std.proofs.Common.{sym, subst}
use Rattle.std.specs.Prelude.{All}
use Rattle.df_floor_units.specs.code.Trades.{IsFloorOrder, IsFloorTrade}
use Rattle.df_floor_units.proofs.FloorOrders.{resting_of_floor, trades_of_floor}
use Rattle.df_floor_units.proofs.book.FloorBook.submit.Goals as goal

pub new-requires : goal.new-requires
new-requires c = subst (All IsFloorTrade) (sym c.in_ok-trades.ensures.trades) (trades_of_floor c.args.order c.self.inside.book c.requires.of_floor c.self.invariant)

pub invariant_of-self-2 : goal.invariant_of-self-2
invariant_of-self-2 c = subst (All IsFloorOrder) (sym c.in_ok-trades.ensures.rests) (resting_of_floor c.args.order c.self.inside.book c.requires.of_floor c.self.invariant)
