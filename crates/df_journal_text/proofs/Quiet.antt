-- The entry of a call, spelled behind its front.
use Rattle.df_journal_text.proofs.Names.{◌≡◌, ℕ, List, ◌++◌, Option, append_assoc, sym, ap, ◌∙◌, flat_map-append, Label, Call, Effect, Done, UnitName, Reply, call_line, effect_text, entry_text, note_text, reads_text, answer_text}
use Rattle.df_journal_text.specs.Front.{call_front}

-- the line of a call is its front, with the reply behind it
line_of : (actor : UnitName) (call : Call) (r : Reply) → call_line actor call r ≡ call_front actor call ++ answer_text r
line_of actor call r = simp (append_assoc, flat_map-append)

-- the pieces of an entry, as they are appended
grouped : (before front told note reads effect : List ℕ)
    → ((before ++ front) ++ (told ++ note)) ++ (reads ++ effect) ≡ before ++ ((((front ++ told) ++ note) ++ reads) ++ effect)
grouped before front told note reads effect = simp (append_assoc)

-- so the entry of a call is spelled behind its front
pub spelled : (actor : UnitName) (call : Call) (r : Reply) (f : Effect) (note : Option Label) (before front : List ℕ) → front ≡ call_front actor call
    → ((before ++ front) ++ (answer_text r ++ note_text note)) ++ (reads_text r ++ effect_text f) ≡ before ++ entry_text note (Done actor call r f)
spelled actor call r f note before front is =
    ap (λ (u : List ℕ). ((before ++ u) ++ (answer_text r ++ note_text note)) ++ (reads_text r ++ effect_text f)) is
    ∙ grouped before (call_front actor call) (answer_text r) (note_text note) (reads_text r) (effect_text f)
    ∙ ap (λ (u : List ℕ). before ++ (((u ++ note_text note) ++ reads_text r) ++ effect_text f)) (sym (line_of actor call r))
