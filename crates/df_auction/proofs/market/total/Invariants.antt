use Rattle.std.proofs.Common.{◌≡◌, ◌*◌, ◌≤◌, take}
use Rattle.df_auction.specs.Matching.{total}
use Rattle.df_auction.proofs.market.total.Given as goal

abbrev pub invariant-loop-fill : goal.invariant-loop-fill
invariant-loop-fill l = (l.sum ≡ total (take l.fill-index l.fills)) × (l.sum ≤ 4_294_967_296 * l.fill-index)
