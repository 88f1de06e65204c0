use Rattle.df_workers.proofs.Names.{◌≡◌, List, [], ◌∷◌, ◌++◌, Option, arith, ap, option_to_list, refl, ◌∙◌, nil_from_length}
use Rattle.df_workers.proofs.Gathered.{gathered_came, gathered_each, gathering_first, gathering_last, gathering_next}
use Rattle.df_workers.proofs.rounds.gather.Goals as goal

pub loop-worker-init : goal.loop-worker-init
loop-worker-init g c = gathering_first c.args.hub.now c.args.pass.now.seen c.args.all.items c.args.pass.now c.requires.free c.requires.workers refl

pub join-requires-clause-other : goal.join-requires-clause-other
join-requires-clause-other g c =
    let popped : c.loop-worker.all.items ≡ c.pop.new.self.items ++ c.in-Some.worker ∷ [] = c.pop.ensures.items
    ∙ ap (λ (o : Option _). c.pop.new.self.items ++ option_to_list o) c.in-Some.is in
    gathering_last c.args.hub.now c.args.pass.now.seen c.args.all.items c.loop-worker.all.items c.pop.new.self.items c.in-Some.worker c.loop-worker.pass
    c.loop-worker.came c.loop-worker.invariant popped

pub loop-worker-preserved : goal.loop-worker-preserved
loop-worker-preserved g c =
    let popped : c.loop-worker.all.items ≡ c.pop.new.self.items ++ c.in-Some.worker ∷ [] = c.pop.ensures.items
    ∙ ap (λ (o : Option _). c.pop.new.self.items ++ option_to_list o) c.in-Some.is in
    rw c.then-came.ensures
    (gathering_next c.args.hub.now c.args.pass.now.seen c.args.all.items c.loop-worker.all.items c.pop.new.self.items c.in-Some.worker c.loop-worker.pass
    c.join.new.pass c.loop-worker.came
    c.loop-worker.invariant popped c.join.ensures.pass c.join.ensures.begins.0 c.join.ensures.begins.1)

pub returns-clause-each : goal.returns-clause-each
returns-clause-each g c =
    let none : c.pop.new.self.items ≡ [] = nil_from_length c.pop.new.self.items (omega (arith, c.in_default.ensures.cases.1, c.pop.new.self.ok.0)) in
    let empty : c.loop-worker.all.items ≡ [] = c.pop.ensures.items ∙ ap (λ (o : Option _). c.pop.new.self.items ++ option_to_list o) c.in_default.is
    ∙ ap (λ (ws : List _). ws ++ []) none in
    gathered_each c.args.hub.now c.args.pass.now.seen c.args.all.items c.loop-worker.all.items c.loop-worker.pass c.loop-worker.came c.loop-worker.invariant
    empty

pub returns-clause-came : goal.returns-clause-came
returns-clause-came g c =
    let none : c.pop.new.self.items ≡ [] = nil_from_length c.pop.new.self.items (omega (arith, c.in_default.ensures.cases.1, c.pop.new.self.ok.0)) in
    let empty : c.loop-worker.all.items ≡ [] = c.pop.ensures.items ∙ ap (λ (o : Option _). c.pop.new.self.items ++ option_to_list o) c.in_default.is
    ∙ ap (λ (ws : List _). ws ++ []) none in
    gathered_came c.args.hub.now c.args.pass.now.seen c.args.all.items c.loop-worker.all.items c.loop-worker.pass c.loop-worker.came c.loop-worker.invariant
    empty
