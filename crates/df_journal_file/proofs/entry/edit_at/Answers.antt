use Rattle.df_journal_file.proofs.Names.{EditsSome, EntriesFrom, arith, refl, subst, sym}
use Rattle.df_journal_file.proofs.Fronts.{one_result}
use Rattle.df_journal_file.proofs.LineKinds.{adds_run, spots_run}
use Rattle.df_journal_file.proofs.Ontos.{stopped}
use Rattle.df_journal_file.proofs.Places.{both_here}
use Rattle.df_journal_file.proofs.Rows.{filled_onto, run_onto, run_stop}
use Rattle.df_journal_file.proofs.Steps.{no_edit_stop}
use Rattle.df_journal_file.proofs.entry.edit_at.Goals as goal

pub returns-clause-read : goal.returns-clause-read
returns-clause-read c =
    let deleted = c.in_ok-deleted.ensures.read.0 in
    let added = c.in_ok-added.ensures.read.0 in
    let some = subst EditsSome c.new-edit.ensures (c.edits_some.ensures.0 c.if-not-edits_some.false) in
    rw c.new-edit.ensures (both_here deleted added ((deleted.fits, added.fits), some) refl)

pub returns-in_err-deleted-clause-stops : goal.returns-in_err-deleted-clause-stops
returns-in_err-deleted-clause-stops c = λ has. stopped _ _ c.from_residual.ensures.1 (run_stop (spots_run has) _ _ 0 _ c.in_err-deleted.ensures.stops)

pub returns-in_err-added-clause-stops : goal.returns-in_err-added-clause-stops
returns-in_err-added-clause-stops c = λ has.
    stopped _ _ c.from_residual-in_err-added.ensures.1
    (run_onto (spots_run has) _ _ _ _ 0 c.in_ok-deleted.ensures.read _ (run_stop (adds_run has) _ _ _ _ c.in_err-added.ensures.stops))

pub returns-then-not-edits_some-clause-stops : goal.returns-then-not-edits_some-clause-stops
returns-then-not-edits_some-clause-stops c = λ has.
    no_edit_stop has _ _ _ _ _ _ c.requires c.in_ok-deleted.ensures.read c.in_ok-added.ensures.read
    (λ some. one_result (c.edits_some.ensures.1 (subst EditsSome (sym c.new-edit.ensures) some)) c.if-not-edits_some.true)

pub returns-clause-onto : goal.returns-clause-onto
returns-clause-onto c = λ has f s.
    let some = subst EditsSome c.new-edit.ensures (c.edits_some.ensures.0 c.if-not-edits_some.false) in
    run_onto (spots_run has) _ _ _ _ 0 c.in_ok-deleted.ensures.read f
    (filled_onto (EntriesFrom has) (adds_run has) _ _ _ _ c.in_ok-added.ensures.read _ (omega (arith, some)) f s)
