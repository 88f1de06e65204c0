use Rattle.df_journal_text.proofs.Names.{List, ℕ, [], ◌∷◌, ◌++◌, append-nil, ap, sym, ◌∙◌, Effect, note_text, answer_text}
use Rattle.std.proofs.lemmas.Result.{on_ok_weaker}
use Rattle.df_unit.specs.Drafts.{show}
use Rattle.df_unit.specs.declared.reply.Reply.TheVariants.{Parts}
use Rattle.df_journal_text.specs.Entry.{read_line}
use Rattle.df_journal_text.proofs.Quiet.{spelled}
use Rattle.df_journal_text.proofs.entry.append_seen_alone.Goals as goal

pub returns : goal.returns
returns c = λ actor call is.
    let part = show c.args.part.now in
    let reply = Parts (part ∷ []) in
    let front = (c.args.to.now.items ++ c.args.front.now) ++ (answer_text reply ++ note_text c.args.note.now) in
    let noted = c.in_ok-extend_from_slice-2.ensures.items
    ∙ ap (λ (u : List ℕ). c.extend_from_slice.new.self.items ++ u) c.behind_parts.ensures
    ∙ ap (λ (u : List ℕ). u ++ (answer_text reply ++ note_text c.args.note.now)) c.in_ok-extend_from_slice.ensures.items in
    on_ok_weaker c.append_seen.result
    (λ seen. seen ∙ ap (λ (u : List ℕ). u ++ read_line part) noted
    ∙ ap (λ (u : List ℕ). front ++ u) (sym (append-nil (read_line part ++ []) ∙ append-nil (read_line part)))
    ∙ spelled actor call reply Effect.Nothing c.args.note.now c.args.to.now.items c.args.front.now is)
    c.append_seen.ensures
