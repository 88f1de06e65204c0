use Rattle.df_journal_file.proofs.Names.{None}
use Rattle.df_journal_file.proofs.Texts.{begun, text_onto, text_stop}
use Rattle.df_journal_file.proofs.Ontos.{stopped}
use Rattle.df_journal_file.proofs.Roots.{roots_stop}
use Rattle.df_journal_file.proofs.cursor.JournalCursor.begin.Goals as goal

pub returns-in_err-has_notes-clause-stops : goal.returns-in_err-has_notes-clause-stops
returns-in_err-has_notes-clause-stops c =
    stopped _ _ c.from_residual.ensures.1 (text_stop None _ _ c.in_err-has_notes.ensures.stops)

pub returns-in_err-start-clause-stops : goal.returns-in_err-start-clause-stops
returns-in_err-start-clause-stops c =
    stopped _ _ c.from_residual-in_err-start.ensures.1
    (text_onto None _ tt _ _ c.in_ok-has_notes.ensures.read _ (roots_stop _ _ _ _ c.in_err-start.ensures.stops))

pub returns-clause-read : goal.returns-clause-read
returns-clause-read c = begun _ _ _ _ _ c.in_ok-has_notes.ensures.read c.in_ok-start.ensures.read
