use Rattle.df_workers.proofs.Names.{brain_of}
use Rattle.df_workers.proofs.Serving.{IsServing}
use Rattle.df_workers.proofs.serve.serve.Given as goal

abbrev pub invariant-loop-made : goal.invariant-loop-made
invariant-loop-made g l =
    IsServing (brain_of g.B.StepFunction.next g.B.StepFunction.instance) l.hub l.max l.unit l.fn.pass.seen l.made l.pass l.turn l.came
