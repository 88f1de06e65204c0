use Rattle.df_journal_file.proofs.Names.{arith}
use Rattle.df_journal_file.proofs.Opens.{done_read}
use Rattle.df_journal_file.proofs.Ontos.{row_onto, stopped}
use Rattle.df_journal_file.proofs.Steps.{called_row, called_stop}
use Rattle.df_journal_file.proofs.entry.done_at.Goals as goal

pub returns-clause-read : goal.returns-clause-read
returns-clause-read c = done_read _ c.in_ok-actor.ensures.0 c.in_ok-contamination.ensures.read c.in_ok-reply.ensures.read c.in_ok-effect.ensures.read

pub returns-clause-onward : goal.returns-clause-onward
returns-clause-onward c =
    omega (arith, c.in_ok-actor.ensures.1, c.in_ok-contamination.ensures.read.onward, c.in_ok-reply.ensures.read.onward, c.in_ok-effect.ensures.read.onward)

pub returns-in_err-actor-clause-stops : goal.returns-in_err-actor-clause-stops
returns-in_err-actor-clause-stops c = λ here. stopped _ _ c.from_residual.ensures.1 (called_stop _ _ _ c.requires here _ c.in_err-actor.ensures)

pub returns-in_err-contamination-clause-stops : goal.returns-in_err-contamination-clause-stops
returns-in_err-contamination-clause-stops c = λ here.
    let called = c.in_ok-actor.ensures.0 in
    stopped _ _ c.from_residual-in_err-contamination.ensures.1 (row_onto (called_row _) called _ c.in_err-contamination.ensures.stops)

pub returns-in_err-reply-clause-stops : goal.returns-in_err-reply-clause-stops
returns-in_err-reply-clause-stops c = λ here.
    stopped _ _ c.from_residual-in_err-reply.ensures.1
    (row_onto (called_row _) c.in_ok-actor.ensures.0 _ (c.in_ok-contamination.ensures.onto _ (c.in_err-reply.ensures.stops _)))

pub returns-in_err-effect-clause-stops : goal.returns-in_err-effect-clause-stops
returns-in_err-effect-clause-stops c = λ here.
    stopped _ _ c.from_residual-in_err-effect.ensures.1
    (row_onto (called_row _) c.in_ok-actor.ensures.0 _
    (c.in_ok-contamination.ensures.onto _ (c.in_ok-reply.ensures.onto _ _ (c.in_err-effect.ensures.stops _))))

pub returns-clause-onto : goal.returns-clause-onto
returns-clause-onto c = λ f s.
    row_onto (called_row _) c.in_ok-actor.ensures.0 f
    (c.in_ok-contamination.ensures.onto f (c.in_ok-reply.ensures.onto _ f (c.in_ok-effect.ensures.onto _ f s)))
