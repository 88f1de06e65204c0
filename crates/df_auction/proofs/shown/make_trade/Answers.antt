use Rattle.std.proofs.Common.{◌≡◌, arith, [], ap, ◌∙◌, sym, pos, ℕ, ◌<◌, ◌^◌, w64, rules}
use Rattle.std.proofs.lemmas.Int.{ints}
use mir.Val.{to_z, of_z}
use Rattle.df_auction.proofs.Sides.{read_is}
use Rattle.df_auction.proofs.shown.make_trade.Goals as goal

small : (n : ℕ) → n < 2 ^ 32 → to_z w64 (of_z w64 (pos n)) ≡ pos n
small n h = omega (arith, ints)

pub returns : goal.returns
returns c =
    let price_fits : c.args.price < 2 ^ 32 = search rules in
    let qty_fits : c.args.fill.qty < 2 ^ 32 = search rules in
    let price = ap (λ z. to_z w64 (of_z w64 z)) c.from.ensures ∙ small c.args.price price_fits in
    let qty = ap (λ z. to_z w64 (of_z w64 z)) c.from-2.ensures ∙ small c.args.fill.qty qty_fits in
    let symbol = c.in_ok-copy.ensures ∙ sym (read_is (λ o. o.symbol) [] c.args.orders.now c.args.fill.purchase c.index-orders-fill.result c.requires.purchase c.index-orders-fill.is) in
    let buyer = read_is (λ o. o.trader) 0 c.args.orders.now c.args.fill.purchase c.index-orders-fill.result c.requires.purchase c.index-orders-fill.is in
    let seller = read_is (λ o. o.trader) 0 c.args.orders.now c.args.fill.sale c.index-orders-fill-2.result c.requires.sale c.index-orders-fill-2.is in
    cc
