use Rattle.std.proofs.Common.{◌+◌, ◌++◌, ◌∷◌, ap, sym, ◌∙◌, drop}
use Rattle.df_floor.specs.Starting.{monitors_of}
use Rattle.df_floor.proofs.Next.{next_monitor, one_more}
use Rattle.df_floor.proofs.start.push_monitors.Goals as goal

pub loop-i-preserved : goal.loop-i-preserved
loop-i-preserved c =
    let roots = c.loop-i.roots.items in
    let all = c.args.roots.now.items ++ monitors_of c.args.number c.args.pairs.now in
    let rest = monitors_of c.args.number (drop (c.loop-i.i + 1) c.args.pairs.now) in
    let next = next_monitor c.args.number c.loop-i.i c.args.pairs.now c.loop-i-test.true in
    one_more roots c.push.new.self.items all c.in_ok-monitor_root.field-0 rest c.in_ok-push.ensures.items
    (ap (λ r. roots ++ r ∷ rest) c.in_ok-monitor_root.ensures ∙ sym (ap (λ rs. roots ++ rs) next) ∙ c.loop-i.invariant)
