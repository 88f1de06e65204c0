use Rattle.df_journal_file.proofs.Texts.{other_stop, text_onto, text_stop, whole_of}
use Rattle.df_journal_file.proofs.Fronts.{one_result}
use Rattle.df_journal_file.proofs.Ontos.{stopped}
use Rattle.df_journal_file.proofs.Roots.{roots_onto, roots_stop}
use Rattle.df_journal_file.proofs.file.whole.Goals as goal

pub returns-in_err-has_notes-clause-stops : goal.returns-in_err-has_notes-clause-stops
returns-in_err-has_notes-clause-stops c = stopped _ _ c.from_residual.ensures.1 (text_stop c.args.wanted _ _ c.in_err-has_notes.ensures.stops)

pub returns-then-not-is_wanted-clause-stops : goal.returns-then-not-is_wanted-clause-stops
returns-then-not-is_wanted-clause-stops c =
    other_stop c.args.wanted _ (λ w. one_result (c.is_wanted.ensures.1 w) c.if-not-is_wanted.true) _ _ c.in_ok-has_notes.ensures.read

pub returns-in_err-start-clause-stops : goal.returns-in_err-start-clause-stops
returns-in_err-start-clause-stops c =
    let behind = text_onto c.args.wanted _ (c.is_wanted.ensures.0 c.if-not-is_wanted.false) _ _ c.in_ok-has_notes.ensures.read in
    stopped _ _ c.from_residual-in_err-start.ensures.1 (behind _ (roots_stop _ _ _ _ c.in_err-start.ensures.stops))

pub returns-in_err-noted-clause-stops : goal.returns-in_err-noted-clause-stops
returns-in_err-noted-clause-stops c =
    let behind = text_onto c.args.wanted _ (c.is_wanted.ensures.0 c.if-not-is_wanted.false) _ _ c.in_ok-has_notes.ensures.read in
    stopped _ _ c.from_residual-in_err-noted.ensures.1 (behind _ (roots_onto _ _ _ _ _ c.in_ok-start.ensures.read _ c.in_err-noted.ensures.stops))

pub returns-clause-read : goal.returns-clause-read
returns-clause-read c = whole_of _ _ _ _ _ _ c.in_ok-has_notes.ensures.read c.in_ok-start.ensures.read c.in_ok-noted.ensures.read
