use Rattle.df_journal_text.proofs.Names.{List, ℕ, ◌++◌, ap, ◌∙◌, Effect, note_text, effect_text, answer_text}
use Rattle.std.proofs.lemmas.Result.{on_ok_weaker}
use Rattle.df_unit.specs.declared.reply.Reply.TheVariants.{Event}
use Rattle.df_journal_text.proofs.Quiet.{spelled}
use Rattle.df_journal_text.proofs.entry.append_received.Goals as goal

pub returns : goal.returns
returns c = λ actor call is.
    let reply = Event c.args.h c.args.given.now.sub in
    let effect = Effect.Given c.args.given.now in
    let noted = c.in_ok-append_noted_event.ensures
    ∙ ap (λ (u : List ℕ). u ++ (answer_text reply ++ note_text c.args.note.now)) c.in_ok-extend_from_slice.ensures.items in
    on_ok_weaker c.append_given.result
    (λ given. given ∙ ap (λ (u : List ℕ). u ++ effect_text effect) noted
    ∙ spelled actor call reply effect c.args.note.now c.args.to.now.items c.args.front.now is)
    c.append_given.ensures
