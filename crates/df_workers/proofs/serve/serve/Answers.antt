use Rattle.df_workers.proofs.Names.{brain_of}
use Rattle.df_workers.proofs.Serving.{first_ends, serving_ends, serving_next}
use Rattle.df_workers.proofs.serve.serve.Goals as goal

pub returns-in-Ends-clause-served : goal.returns-in-Ends-clause-served
returns-in-Ends-clause-served g c =
    (first_ends (brain_of g.B.StepFunction.next g.B.StepFunction.instance) c.args.hub.now c.args.max c.args.unit.now c.args.pass.now.seen c.begin.new.pass.seen
    c.in-Ends.ensures.begins c.in-Ends.came c.in-Ends.ensures.first).1

pub returns-in-Ends-next-clause-grew : goal.returns-in-Ends-next-clause-grew
returns-in-Ends-next-clause-grew g c =
    let l = c.loop-made in
    rw c.then.ensures (serving_ends (brain_of g.B.StepFunction.next g.B.StepFunction.instance) c.args.hub.now c.args.max c.args.unit.now c.args.pass.now.seen
    l.made l.pass
    c.step-next.new.pass l.turn l.came l.invariant c.in-Ends-next.ensures.free c.in-Ends-next.ensures.begins c.in-Ends-next.of c.in-Ends-next.ensures.next).0

pub returns-in-Ends-next-clause-served : goal.returns-in-Ends-next-clause-served
returns-in-Ends-next-clause-served g c =
    let l = c.loop-made in
    rw c.then.ensures (serving_ends (brain_of g.B.StepFunction.next g.B.StepFunction.instance) c.args.hub.now c.args.max c.args.unit.now c.args.pass.now.seen
    l.made l.pass
    c.step-next.new.pass l.turn l.came l.invariant c.in-Ends-next.ensures.free c.in-Ends-next.ensures.begins c.in-Ends-next.of c.in-Ends-next.ensures.next).1

pub loop-made-preserved : goal.loop-made-preserved
loop-made-preserved g c =
    let l = c.loop-made in
    rw c.then-came.ensures
    (serving_next (brain_of g.B.StepFunction.next g.B.StepFunction.instance) c.args.hub.now c.args.max c.args.unit.now c.args.pass.now.seen l.made l.pass
    c.step-next.new.pass l.turn l.came l.invariant c.in-Goes-next.ensures.free c.in-Goes-next.ensures.begins c.in-Goes-next.next c.in-Goes-next.of
    c.in-Goes-next.ensures.next)
