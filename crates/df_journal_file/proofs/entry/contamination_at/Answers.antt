use Rattle.df_journal_file.proofs.Names.{refl}
use Rattle.df_journal_file.proofs.Opens.{no_note, some_note}
use Rattle.df_journal_file.proofs.Fronts.{one_result}
use Rattle.df_journal_file.proofs.LineKinds.{note_kind}
use Rattle.df_journal_file.proofs.Ontos.{row_onto, stopped}
use Rattle.df_journal_file.proofs.Places.{as_here, none_here}
use Rattle.df_journal_file.proofs.Rows.{row_stop}
use Rattle.df_journal_file.proofs.Steps.{note_row, noted_onto, unnoted_onto}
use Rattle.df_journal_file.proofs.entry.contamination_at.Goals as goal

pub returns-then-notes_none-clause-read : goal.returns-then-notes_none-clause-read
returns-then-notes_none-clause-read c = none_here c.requires.inside (no_note _ _ (c.notes_none.ensures.0 c.if-notes_none.true)) refl

pub returns-clause-read : goal.returns-clause-read
returns-clause-read c =
    let label = c.in_ok-label.ensures.0 in
    as_here label (some_note _ _ _ (λ none. one_result (c.notes_none.ensures.1 none) c.if-notes_none.false) label.fits) refl

pub returns-then-notes_none-clause-onto : goal.returns-then-notes_none-clause-onto
returns-then-notes_none-clause-onto c = unnoted_onto _ _ _ _ (c.notes_none.ensures.0 c.if-notes_none.true)

pub returns-in_err-label-clause-stops : goal.returns-in_err-label-clause-stops
returns-in_err-label-clause-stops c =
    stopped _ _ c.from_residual.ensures.1 (noted_onto _ _ _ _ (λ none. one_result (c.notes_none.ensures.1 none) c.if-notes_none.false) _
    (row_stop note_kind (note_row _ _ c.requires.bare) _ _ c.requires.inside (λ u like no. no) _ c.in_err-label.ensures))

pub returns-clause-onto : goal.returns-clause-onto
returns-clause-onto c = λ f s.
    noted_onto _ _ _ _ (λ none. one_result (c.notes_none.ensures.1 none) c.if-notes_none.false) f
    (row_onto (note_row _ _ c.requires.bare) c.in_ok-label.ensures.0 f s)
