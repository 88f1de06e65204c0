use Rattle.df_audit.proofs.Names.{sym, ◌∙◌, on_ok_weaker}
use Rattle.df_tables.specs.Hand.{received_answer}
use Rattle.df_unit.specs.declared.call.Call.TheVariants.{Get}
use Rattle.df_audit.proofs.Calls.{makes_call}
use Rattle.df_audit.proofs.made.append_get.Goals as goal

pub give-given-requires-clause-seated : goal.give-given-requires-clause-seated
give-given-requires-clause-seated g c = (c.requires.seated.0, sym c.in-Some.is ∙ c.requires.seated.1)

pub returns-in-Ok : goal.returns-in-Ok
returns-in-Ok g c =
    let told = c.append_told in
    let made = rw c.in-Ok.is at c.give-given.ensures.made in
    on_ok_weaker told.result
    (λ spelled core actor agrees seated words.
    makes_call core actor Get c.args.note.now (g.H.Hears.heard c.args.to.now told.new.to) c.give-given.new.self c.args.text.now.items told.new.text.items
    (received_answer c.in-Ok.received) (made core actor agrees (sym c.in-Some.is ∙ seated)) told.ensures.heard
    (spelled actor Get words))
    told.ensures.text
