use Rattle.std.proofs.Common.{◌+◌, ◌++◌, ◌∷◌, ap, sym, ◌∙◌, drop}
use Rattle.df_floor.specs.Starting.{trader_roots}
use Rattle.df_floor.proofs.Next.{next_trader, one_more}
use Rattle.df_floor.proofs.start.push_traders.Goals as goal

pub loop-i-preserved : goal.loop-i-preserved
loop-i-preserved c =
    let roots = c.loop-i.roots.items in
    let all = c.args.roots.now.items ++ trader_roots 0 c.args.traders.now in
    let rest = trader_roots (c.loop-i.i + 1) (drop (c.loop-i.i + 1) c.args.traders.now) in
    let next = next_trader c.loop-i.i c.args.traders.now c.loop-i-test.true in
    one_more roots c.push.new.self.items all c.in_ok-trader_root.field-0 rest c.in_ok-push.ensures.items
    (ap (λ r. roots ++ r ∷ rest) c.in_ok-trader_root.ensures ∙ sym (ap (λ rs. roots ++ rs) next) ∙ c.loop-i.invariant)
