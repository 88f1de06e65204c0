use Rattle.std.proofs.Common.{◌≡◌, ℕ, cond, arith, ap, sym, ◌∙◌, rules, None, Some, pos, map, unwrap_or, nat_eq, w64, ⊎_elim}
use Rattle.std.proofs.lemmas.Int.{to_z-of_z}
use Rattle.std.proofs.lemmas.Bool.{cases_Bool}
use Rattle.std.proofs.lemmas.Bool.Decides.{nat_tests}
use mir.Syntax.{w128}
use mir.Val.{SFits}
use Rattle.df_auction.specs.Matching.{total}
use Rattle.df_auction.specs.code.Clearing.{price_of}
use Rattle.df_auction.specs.Auction.{trade_of, rest_of}
use Rattle.df_auction.proofs.Theorem.{settled, called_for, best}
use Rattle.df_auction.proofs.market.auction.Goals as goal

-- the price that trades are made at
price_is : (p : ℕ) → unwrap_or (price_of p) 0 ≡ p
price_is p = ⊎_elim
    (λ t. let z : p ≡ 0 = grind (arith, nat_tests) in ap (λ b. unwrap_or (cond b None (Some p)) 0) t ∙ sym z)
    (λ f. ap (λ b. unwrap_or (cond b None (Some p)) 0) f)
    (cases_Bool (nat_eq p 0))

pub returns : goal.returns
returns c =
    let orders = c.args.orders.now in
    let fills = c.in_ok-clearing.clearing.fills.items in
    let p = c.in_ok-clearing.clearing.price in
    let r = c.in_ok-clearing.clearing.split in
    let is = c.as_slice-fills.ensures.value in
    let total_fits : SFits w128 c.total.result = search rules in
    let split_fits : SFits w64 c.from.result = search rules in
    let volume = to_z-of_z w128 c.total.result total_fits ∙ (c.total.ensures ∙ ap (λ l. pos (total l)) is) in
    let split = to_z-of_z w64 c.from.result split_fits ∙ c.from.ensures in
    let price = c.price_of.ensures in
    let trades = c.new.ensures ∙ (c.in_ok-trades.ensures ∙ (ap (λ l. map (trade_of orders p) l) is ∙ ap (λ n. map (trade_of orders n) fills) (sym (price_is p)))) in
    let rest = c.new-2.ensures ∙ (c.in_ok-rest.ensures ∙ ap (rest_of orders) is) in
    record {
      settlement = settled orders fills p r c.in_ok-clearing.ensures;
      shows = cc;
      called_for = called_for orders fills p r c.in_ok-clearing.ensures;
      best = best orders fills p r c.in_ok-clearing.ensures;
    }
