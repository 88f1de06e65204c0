use Rattle.std.proofs.Common.{◌≡◌, arith, ap, ◌∙◌, length, get_or, rules, refl}
use Rattle.std.proofs.lemmas.List.{length-map}
use Rattle.std.proofs.lemmas.Grind.{common_steps}
use Rattle.df_auction.proofs.Sides.{read_map, given-drop, this-place}
use Rattle.df_auction.proofs.Sweeping.{given_back}
use Rattle.df_auction.proofs.shown.left.Goals as goal

pub loop-fill-init : goal.loop-fill-init
loop-fill-init c =
    let e = c.in_ok-left.ensures in
    (ap length e ∙ simp length-map, λ k. omega (arith, ap (λ l. get_or l k 0) e, read_map c.args.orders.now k))

pub give-requires-in-loop-fill-clause-fits : goal.give-requires-in-loop-fill-clause-fits
give-requires-in-loop-fill-clause-fits c =
    let i = c.loop-fill.fill-index in
    let fills = c.args.fills.now in
    let f = get_or fills i record { purchase = 0; sale = 0; qty = 0 } in
    let itself : f ≡ get_or fills i f = grind (arith, common_steps) in
    let new_len : length c.give.new.left ≡ c.loop-fill.left.len = search rules in
    let old_len : length c.loop-fill.left.items ≡ c.loop-fill.left.len = search rules in
    let back = given_back c.give.new.left c.loop-fill.left.items c.loop-fill.left.len new_len old_len in
    let now = ap (λ l. get_or l f.sale 0) (c.deref_mut-in-loop-fill.ensures.value ∙ back) in
    let was = ap (λ l. get_or l f.sale 0) c.deref_mut.ensures.value in
    let buys = given-drop (λ f. f.purchase) f.sale fills i f c.loop-fill-test.true itself in
    let sells = given-drop (λ f. f.sale) f.sale fills i f c.loop-fill-test.true itself in
    omega (arith, c.give.ensures f.sale, c.loop-fill.invariant.1 f.sale, c.requires.within f.sale, now, was, buys, sells, this-place f.sale f.sale f.qty refl)
