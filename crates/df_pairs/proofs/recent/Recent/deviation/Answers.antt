use Rattle.std.proofs.Common.{ap, subst, sym, ◌∙◌, pos, ◌≤◌, ◌^◌}
use Rattle.std.specs.Prelude.{unsigned_abs, ◌-ℤ◌, ◌*ℤ◌}
use Rattle.df_pairs.specs.Divergence.{total}
use Rattle.df_pairs.proofs.SpreadFacts.{sum-size, deviation-fits, deviation-is, deviation-size}
use Rattle.df_pairs.proofs.recent.Recent.deviation.Goals as goal

pub overflow_sub-result : goal.overflow_sub-result
overflow_sub-result c =
    deviation-fits c.self.inside.window c.from.result c.args.spread c.self.inside.sum c.from.ensures c.self.invariant.narrow c.requires
    (sum-size c.self.inside.newest_first c.self.inside.sum c.self.inside.window c.self.invariant)

pub returns-clause-exact : goal.returns-clause-exact
returns-clause-exact c =
    deviation-is c.self.inside.window c.from.result c.args.spread c.self.inside.sum c.from.ensures c.self.invariant.narrow c.requires
    (sum-size c.self.inside.newest_first c.self.inside.sum c.self.inside.window c.self.invariant)
    ∙ ap (λ sum. pos c.self.inside.window *ℤ c.args.spread -ℤ sum) c.self.invariant.summed
    ∙ ap (λ w. pos w.most *ℤ c.args.spread -ℤ total w.spreads) c.self.view_is

pub returns-clause-small : goal.returns-clause-small
returns-clause-small c =
    let small = sum-size c.self.inside.newest_first c.self.inside.sum c.self.inside.window c.self.invariant in
    subst (λ z. unsigned_abs z ≤ 2 ^ 97) (sym (deviation-is c.self.inside.window c.from.result c.args.spread c.self.inside.sum c.from.ensures c.self.invariant.narrow c.requires small))
    (deviation-size c.self.inside.window c.args.spread c.self.inside.sum c.self.invariant.narrow c.requires small)
