use Rattle.df_audit.proofs.Names.{on_ok_weaker}
use Rattle.df_audit.proofs.Calls.{makes_call}
use Rattle.df_audit.proofs.made.append_answered.Goals as goal

pub returns : goal.returns
returns g c =
    let answer = c.in_ok-answer.answer in
    let told = c.append_heard-appended in
    on_ok_weaker told.result
    (λ heard core actor agrees seated words.
    makes_call core actor c.args.call.now c.args.note.now (g.H.Hears.heard c.args.to.now told.new.to) c.step_other.new.self c.args.text.now.items
    told.new.text.items (answer.reply, answer.effect) (c.in_ok-answer.ensures.step core actor agrees seated) heard.0
    (heard.1 actor c.args.call.now words))
    told.ensures
