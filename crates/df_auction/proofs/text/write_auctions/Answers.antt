use Rattle.std.proofs.Common.{◌≡◌, ◌<◌, ◌≤◌, ◌^◌, length, ap, sym, subst, rules}
use Rattle.std.specs.Ordering.{is_lt, nat_cmp}
use Rattle.std.specs.Cmp.Lexicographic.{slice_cmp}
use Rattle.std.proofs.lemmas.List.Sorted.{answers_always, All-permutation}
use Rattle.df_auction.specs.Stairs.{IsInRange}
use Rattle.df_auction.specs.AuctionText.{AreLines, symbol_below}
use Rattle.df_auction.proofs.Ranks.{sort_ranks}
use Rattle.df_auction.proofs.Symbols.{symbol_order, is_market, more_lines, all_lines}
use Rattle.df_auction.proofs.text.write_auctions.Goals as goal

pub append_market-requires-clause-market : goal.append_market-requires-clause-market
append_market-requires-clause-market c =
    let xs = c.sort_by.new.self.items in
    let all = All-permutation IsInRange c.args.orders.items xs c.sort_by.ensures.permutation c.requires.in_range in
    let few : length xs < 2 ^ 32 = search rules in
    let run = c.run_end-end.ensures in
    let slice = c.as_slice.ensures.value in
    let bound : c.run_end-end.result ≤ length xs = subst (λ l. c.run_end-end.result ≤ length l) slice run.bound in
    rw c.deref.ensures.value (is_market xs c.loop-i.i c.run_end-end.result run.some bound (rw slice at run.same) all few)

pub loop-i-preserved : goal.loop-i-preserved
loop-i-preserved c =
    let xs = c.sort_by.new.self.items in
    let run = c.run_end-end.ensures in
    let slice = c.as_slice.ensures.value in
    let bound : c.run_end-end.result ≤ length xs = subst (λ l. c.run_end-end.result ≤ length l) slice run.bound in (
      bound,
      more_lines xs c.loop-i.i c.run_end-end.result run.some bound (rw slice at run.same) _ _ (rw slice at run.other) c.loop-i.invariant.1
          (rw c.deref.ensures.value at c.in_ok-append_market.ensures),
    )

pub returns : goal.returns
returns c =
    let compares = answers_always _ (λ a r. is_lt r ≡ symbol_below a.0.now a.1.0.now) _ (λ f a r q k. let e : r ≡ slice_cmp nat_cmp a.0.now.symbol a.1.0.now.symbol = search rules in ap is_lt e) in
    let sorted = c.in_ok-sort_by.ensures.sorted symbol_below symbol_order compares in
    let stable = c.in_ok-sort_by.ensures.stable symbol_below symbol_order compares in
    let ranks = sort_ranks symbol_below symbol_order _ _ sorted stable in
    let past : length c.sort_by.new.self.items ≤ c.loop-i.i = search rules in
    let lines = all_lines c.sort_by.new.self.items c.loop-i.i _ past c.loop-i.invariant.1 in
    let text = ap (λ v. v.items) c.into_bytes.ensures.value in
    subst (λ l. AreLines l c.into_bytes.result.items) ranks (subst (λ t. AreLines c.sort_by.new.self.items t) (sym text) lines)
