use Rattle.df_plain_floor.proofs.Names.{brain_of}
use Rattle.df_plain_floor.proofs.Taking.{all_brains, one_taken}
use Rattle.df_plain_floor.proofs.Turning.{turns_trans}
use Rattle.df_plain_floor.proofs.turns.take_turns.Goals as goal

pub returns-in_err-take_turn-clause-turns : goal.returns-in_err-take_turn-clause-turns
returns-in_err-take_turn-clause-turns g c =
    turns_trans (brain_of g.B.StepFunction.next g.B.StepFunction.instance) c.args.max c.args.crew.now c.loop-unit.crew c.take_turn.new.crew
    c.loop-unit.invariant.turns c.in_err-take_turn.ensures.turns

pub loop-unit-preserved : goal.loop-unit-preserved
loop-unit-preserved g c =
    one_taken (brain_of g.B.StepFunction.next g.B.StepFunction.instance) c.args.max c.args.units.now c.args.crew.now c.loop-unit.unit-index c.loop-unit.crew
    c.take_turn.new.crew c.unit-item.result
    c.loop-unit-test.true c.unit-item.is c.loop-unit.invariant c.in_ok-take_turn.ensures.turn c.in_ok-take_turn.ensures.brain

pub returns-clause-brains : goal.returns-clause-brains
returns-clause-brains g c =
    all_brains (brain_of g.B.StepFunction.next g.B.StepFunction.instance) c.args.max c.args.units.now c.args.crew.now c.loop-unit.unit-index c.loop-unit.crew
    c.loop-unit-test.false c.loop-unit.invariant
