use Rattle.df_pairs.proofs.SpreadFacts.{popped, popped-fits}
use Rattle.df_pairs.proofs.recent.Recent.make_room.Goals as goal

pub overflow_sub-self : goal.overflow_sub-self
overflow_sub-self c = popped-fits c.self.inside.newest_first c.pop_back.new.self c.self.inside.sum c.in-Some.oldest c.self.inside.window c.self.invariant c.in-Some.ensures.items

pub invariant_of-self : goal.invariant_of-self
invariant_of-self c =
    popped c.self.inside.newest_first c.pop_back.new.self c.self.inside.sum c.in-Some.oldest c.self.inside.window c.self.invariant c.in-Some.ensures.items c.in-Some.ensures.cases c.in-Some.ensures.capacity
