use Rattle.std.proofs.Common.{ap, ◌∙◌, ◌-◌, ◌∷◌, length, arith}
use Rattle.std.specs.Int.{w128}
use Rattle.std.proofs.lemmas.Int.{to_z-of_z}
use Rattle.std.proofs.lemmas.List.{length-take}
use Rattle.df_pairs.proofs.SpreadFacts.{pushed, pushed-fits}
use Rattle.df_pairs.proofs.recent.Recent.push.Goals as goal

pub overflow_add-self : goal.overflow_add-self
overflow_add-self c = pushed-fits c.self.inside.newest_first c.self.inside.sum c.args.spread c.self.inside.window c.self.invariant c.requires

pub invariant_of-self : goal.invariant_of-self
invariant_of-self c =
    let room = c.self.view_is ∙ c.make_room.ensures in
    let kept = ap (λ w. length w.spreads) room in
    let most = ap (λ w. w.most) room in
    let below = length-take (c.args.self.now.most - 1) c.args.self.now.spreads in
    pushed c.self.inside.newest_first c.push_front_reserved.new.self c.self.inside.sum c.args.spread c.self.inside.window c.self.invariant c.requires
    (omega (arith, kept, most, below, c.self.invariant.long, c.self.invariant.some))
    (c.push_front_reserved.ensures.items ∙ ap (λ d. d ∷ c.self.inside.newest_first.items) (to_z-of_z w128 c.args.spread c.ranges.spread)) c.push_front_reserved.ensures.len c.push_front_reserved.ensures.capacity
