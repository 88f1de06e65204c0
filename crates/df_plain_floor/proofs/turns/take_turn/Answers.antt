use Rattle.df_plain_floor.proofs.Names.{sym, ◌∙◌, brain_of}
use Rattle.df_plain_floor.proofs.Turning.{tried}
use Rattle.df_plain_floor.proofs.turns.take_turn.Goals as goal

pub returns-clause-turns : goal.returns-clause-turns
returns-clause-turns g c =
    let below = sym c.is_full.ensures ∙ c.if-is_full.false in
    tried (brain_of g.B.StepFunction.next g.B.StepFunction.instance) c.args.max c.args.unit.now c.args.crew.now c.take_turn.new.self below c.take_turn.result
    c.take_turn.ensures.turned c.take_turn.ensures.unchanged
