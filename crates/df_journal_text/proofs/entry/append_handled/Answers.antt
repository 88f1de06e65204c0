use Rattle.df_journal_text.proofs.Names.{List, ℕ, ◌++◌, append-nil, ap, sym, ◌∙◌, Effect, Handle, note_text, answer_text}
use Rattle.df_journal_text.proofs.Quiet.{spelled}
use Rattle.df_journal_text.proofs.entry.append_handled.Goals as goal

pub returns : goal.returns
returns c = λ actor call is.
    c.in_ok-append_noted_handle.ensures
    ∙ ap (λ (u : List ℕ). u ++ (answer_text (Handle c.args.h) ++ note_text c.args.note.now)) c.in_ok-extend_from_slice.ensures.items
    ∙ sym (append-nil _)
    ∙ spelled actor call (Handle c.args.h) Effect.Nothing c.args.note.now c.args.to.now.items c.args.front.now is
