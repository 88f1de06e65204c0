use Rattle.std.proofs.Common.{ap, sym, ◌∙◌}
use Rattle.df_brain.specs.Brain.{want_of}
use Rattle.df_brain.specs.declared.want.Want.{Want}
use Rattle.df_rules.specs.Follows.{brain_of}
use Rattle.df_turn.specs.Locally.{ready_by}
use Rattle.df_turn.specs.declared.stage.Stage.TheVariants.{Wants}
use Rattle.df_turn.proofs.Goings.{is_ready}
use Rattle.df_turn.proofs.going.Going.ready.Goals as goal

pub returns-in-Told : goal.returns-in-Told
returns-in-Told g c = λ m h ended. sym (is_ready (brain_of g.B.StepFunction.next g.B.StepFunction.instance) m c.args.self.now _ c.in-Told.is h ended)

pub returns-in-Answered : goal.returns-in-Answered
returns-in-Answered g c = λ m h ended. sym (is_ready (brain_of g.B.StepFunction.next g.B.StepFunction.instance) m c.args.self.now _ c.in-Answered.is h ended)

pub returns-in-Call : goal.returns-in-Call
returns-in-Call g c = λ m h ended. sym (is_ready (brain_of g.B.StepFunction.next g.B.StepFunction.instance) m c.args.self.now (Wants c.in-Wants.want) c.in-Wants.is h ended
    ∙ ap (λ (w : Want). ready_by (want_of w)) c.in-Call.is)

pub returns-in-Wait : goal.returns-in-Wait
returns-in-Wait g c = λ m h ended. sym (is_ready (brain_of g.B.StepFunction.next g.B.StepFunction.instance) m c.args.self.now (Wants c.in-Wants.want) c.in-Wants.is h ended
    ∙ ap (λ (w : Want). ready_by (want_of w)) c.in-Wait.is)
