use Rattle.df_journal_file.proofs.Names.{EntriesFrom, arith, refl, sym, true, ◌∙◌, Bad}
use Rattle.df_journal_file.proofs.LineKinds.{given_run, handed_kind, handed_row}
use Rattle.df_journal_file.proofs.Ontos.{row_onto, stopped}
use Rattle.df_journal_file.proofs.Places.{both_here}
use Rattle.df_journal_file.proofs.Rows.{empty_stop, filled_onto, row_stop, run_stop, some_marked}
use Rattle.df_journal_file.proofs.entry.given_at.Goals as goal

pub returns-clause-read : goal.returns-clause-read
returns-clause-read c =
    let event = c.in_ok-event.ensures.0 in
    let parts = c.in_ok-parts.ensures.read in
    let some = some_marked (given_run true) _ parts (sym c.mark_stands.ensures ∙ c.if-not-mark_stands.false) in
    rw c.new-parts.ensures (both_here event parts.0 (refl, event.fits, parts.0.fits, some) refl)

pub returns-in_err-event-clause-stops : goal.returns-in_err-event-clause-stops
returns-in_err-event-clause-stops c = λ has.
    stopped _ _ c.from_residual.ensures.1 (row_stop handed_kind (handed_row has) _ _ c.requires (λ u like no. no) _ c.in_err-event.ensures)

pub returns-then-not-mark_stands-clause-stops : goal.returns-then-not-mark_stands-clause-stops
returns-then-not-mark_stands-clause-stops c = λ has.
    let event = c.in_ok-event.ensures.0 in
    row_onto (handed_row has) event (Bad c.in_ok-event.behind)
    (empty_stop (EntriesFrom has) (given_run has) _ _ event.inside (sym c.mark_stands.ensures ∙ c.if-not-mark_stands.true))

pub returns-in_err-parts-clause-stops : goal.returns-in_err-parts-clause-stops
returns-in_err-parts-clause-stops c = λ has.
    stopped _ _ c.from_residual-in_err-parts.ensures.1
    (row_onto (handed_row has) c.in_ok-event.ensures.0 _ (run_stop (given_run has) _ _ 0 _ c.in_err-parts.ensures.stops))

pub returns-clause-onto : goal.returns-clause-onto
returns-clause-onto c = λ has f s.
    let some = some_marked (given_run true) _ c.in_ok-parts.ensures.read (sym c.mark_stands.ensures ∙ c.if-not-mark_stands.false) in
    row_onto (handed_row has) c.in_ok-event.ensures.0 f
    (filled_onto (EntriesFrom has) (given_run has) _ _ _ _ c.in_ok-parts.ensures.read 0 (omega (arith, some)) f s)
