use Rattle.std.proofs.Common.{sym, ◌∙◌}
use Rattle.df_rules.specs.Follows.{brain_of}
use Rattle.df_turn.proofs.Goings.{begins, told_pair}
use Rattle.df_turn.proofs.going.Going.begin.Goals as goal

pub returns-clause-going : goal.returns-clause-going
returns-clause-going g c =
    begins (brain_of g.B.StepFunction.next g.B.StepFunction.instance) c.args.mind.now c.args.unit _ c.in_ok-run.ensures _ _
    (sym c.mind.view_is ∙ told_pair _ _ _ _ c.in_ok-state.ensures c.in_ok-last.ensures)
