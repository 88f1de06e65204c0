use Rattle.df_journal_file.proofs.Names.{arith, refl}
use Rattle.df_journal_file.proofs.LineKinds.{commit_kind, commit_row}
use Rattle.df_journal_file.proofs.Ontos.{row_onto, stopped}
use Rattle.df_journal_file.proofs.Places.{both_here}
use Rattle.df_journal_file.proofs.Rows.{row_stop}
use Rattle.df_journal_file.proofs.entry.commit_at.Goals as goal

pub returns-clause-read : goal.returns-clause-read
returns-clause-read c =
    let edit = c.in_ok-edit.ensures.read in both_here c.in_ok-event.ensures.0 edit ((c.in_ok-event.ensures.0.fits, edit.fits.0), edit.fits.1) refl

pub returns-clause-onward : goal.returns-clause-onward
returns-clause-onward c = omega (arith, c.in_ok-event.ensures.1, c.in_ok-edit.ensures.read.onward)

pub returns-in_err-event-clause-stops : goal.returns-in_err-event-clause-stops
returns-in_err-event-clause-stops c = λ has is.
    let row = commit_row has c.args.mark.now is in
    stopped _ _ c.from_residual.ensures.1 (row_stop (commit_kind _ is) row _ _ c.requires (λ u like no. no) _ c.in_err-event.ensures)

pub returns-in_err-edit-clause-stops : goal.returns-in_err-edit-clause-stops
returns-in_err-edit-clause-stops c = λ has is.
    stopped _ _ c.from_residual-in_err-edit.ensures.1
    (row_onto (commit_row has c.args.mark.now is) c.in_ok-event.ensures.0 _ (c.in_err-edit.ensures.stops has))

pub returns-clause-onto : goal.returns-clause-onto
returns-clause-onto c = λ has is f s. row_onto (commit_row has c.args.mark.now is) c.in_ok-event.ensures.0 f (c.in_ok-edit.ensures.onto has f s)
