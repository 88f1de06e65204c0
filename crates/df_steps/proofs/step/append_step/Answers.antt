use Rattle.std.proofs.lemmas.Result.{on_ok_weaker}
use Rattle.df_steps.proofs.Appending.{appends_step}
use Rattle.df_steps.proofs.step.append_step.Goals as goal

pub append_call-requires-clause-seated : goal.append_call-requires-clause-seated
append_call-requires-clause-seated c = (c.args.read.now.line.actor, c.place-place.ensures)

pub returns : goal.returns
returns c =
    on_ok_weaker c.append_call.result
    (λ enters core agrees. appends_step (enters core c.args.read.now.line.actor agrees c.place-place.ensures c.requires.words))
    c.append_call.ensures
