use Rattle.std.proofs.Common.{rules, ◌≡◌, ◌<◌, length, drop, arith, sym, ap, subst, ◌∙◌}
use Rattle.df_auction.specs.Ranking.{after}
use Rattle.df_auction.specs.code.Clearing.{Clears, split_of}
use Rattle.df_auction.proofs.Sweeping.{turn, given_back}
use Rattle.df_auction.proofs.Starting.{begun}
use Rattle.df_auction.proofs.Finishing.{Stuck, stuck_bids, stuck_asks, stuck_both, split_small, finish}
use Rattle.df_auction.proofs.sweep.sweep.Goals as goal
use Rattle.df_auction.proofs.sweep.sweep.Goals.{then-loop-i-test+else-j-len, else-loop-i-test, then-loop-i-test+then-j-len+then-bid-ask}

pub loop-i-init : goal.loop-i-init
loop-i-init c = (omega arith, omega arith, begun _ _ _ _ c.requires.in_range c.in_ok-bids.ensures c.in_ok-asks.ensures c.new-fills.ensures.items)

pub loop-i-preserved : goal.loop-i-preserved
loop-i-preserved c =
    let h = c.loop-i.invariant.2 in
    let new_bids : length c.trade_at-i.new.lots ≡ c.loop-i.bids.len = search rules in
    let old_bids : length c.loop-i.bids.items ≡ c.loop-i.bids.len = search rules in
    let new_asks : length c.trade_at-j.new.lots ≡ c.loop-i.asks.len = search rules in
    let old_asks : length c.loop-i.asks.items ≡ c.loop-i.asks.len = search rules in
    let back_bids = given_back c.trade_at-i.new.lots c.loop-i.bids.items c.loop-i.bids.len new_bids old_bids in
    let back_asks = given_back c.trade_at-j.new.lots c.loop-i.asks.items c.loop-i.asks.len new_asks old_asks in
    let inside_bids : c.loop-i.i < length c.loop-i.bids.items = search rules in
    let inside_asks : c.loop-i.j < length c.loop-i.asks.items = search rules in
    let traded_bids : drop c.trade_at-i.result c.trade_at-i.new.lots ≡ after c.make_fill-fill.result.qty (drop c.loop-i.i c.loop-i.bids.items) =
    c.trade_at-i.ensures.left ∙ ap (λ l. after c.make_fill-fill.result.qty (drop c.loop-i.i l)) c.deref_mut.ensures.value in
    let traded_asks : drop c.trade_at-j.result c.trade_at-j.new.lots ≡ after c.make_fill-fill.result.qty (drop c.loop-i.j c.loop-i.asks.items) =
    c.trade_at-j.ensures.left ∙ ap (λ l. after c.make_fill-fill.result.qty (drop c.loop-i.j l)) c.deref_mut-in-loop-i.ensures.value in
    rw (back_bids, back_asks) (
      c.trade_at-i.ensures.bound,
      c.trade_at-j.ensures.bound,
      turn _ _ _ _ _ _ c.trade_at-i.new.lots c.trade_at-j.new.lots _ _ _ _ _ _ c.make_fill-fill.result h inside_bids inside_asks c.index-bid.ensures c.index-ask.ensures
          c.if-bid-ask.false c.make_fill-fill.ensures c.in_ok-push.ensures.items traded_bids traded_asks,
    )

pub split_at-requires : goal.split_at-requires
split_at-requires c = rw c.as_slice.ensures.value (record { inside = c.loop-i.invariant.0; fits = omega (arith, split_small _ _ _ _ _ c.loop-i.invariant.2) })

pub returns : goal.returns
returns c =
    let h = c.loop-i.invariant.2 in
    let stuck : Stuck (drop c.loop-i.i c.loop-i.bids.items) (drop c.loop-i.j c.loop-i.asks.items) =
    elim c.loop-i-test.branch [
      | then-loop-i-test+else-j-len w ↦ stuck_asks c.loop-i.bids.items c.loop-i.asks.items c.loop-i.i c.loop-i.j (search rules)
      | else-loop-i-test w ↦ stuck_bids c.loop-i.bids.items c.loop-i.asks.items c.loop-i.i c.loop-i.j (search rules)
      | then-loop-i-test+then-j-len+then-bid-ask w ↦ stuck_both c.loop-i.bids.items c.loop-i.asks.items c.loop-i.i c.loop-i.j w.index-bid.result.now w.index-ask.result.now (search rules) (search rules) w.index-bid.ensures w.index-ask.ensures w.if-bid-ask.true
    ] in
    let e : c.split_at.result ≡ split_of (drop c.loop-i.i c.loop-i.bids.items) = c.split_at.ensures ∙ ap (λ l. split_of (drop c.loop-i.i l)) c.as_slice.ensures.value in
    subst (λ n. Clears c.args.orders.now c.loop-i.fills.items c.loop-i.price n) (sym e) (finish _ _ _ _ _ h stuck)
