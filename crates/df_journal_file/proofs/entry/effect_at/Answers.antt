use Rattle.df_journal_file.proofs.Names.{inl, refl, sym, ◌∙◌}
use Rattle.df_journal_file.proofs.Ontos.{stopped}
use Rattle.df_journal_file.proofs.Places.{as_here, none_here}
use Rattle.df_journal_file.proofs.Steps.{commit_onto, handed_onto, nothing_onto}
use Rattle.df_journal_file.proofs.entry.effect_at.Goals as goal

pub returns-then-mark_stands-clause-read : goal.returns-then-mark_stands-clause-read
returns-then-mark_stands-clause-read c = as_here c.in_ok-commit.ensures.read c.in_ok-commit.ensures.read.fits refl

pub returns-in_default-clause-read : goal.returns-in_default-clause-read
returns-in_default-clause-read c = none_here c.requires (tt, tt) refl

pub returns-clause-read : goal.returns-clause-read
returns-clause-read c =
    let given = c.in_ok-given.ensures.read in
    as_here given (rw c.in-Some.ensures.0.1 ((given.fits.0, given.fits.1, given.fits.2), given.fits.3)) refl

pub returns-in_err-commit-clause-stops : goal.returns-in_err-commit-clause-stops
returns-in_err-commit-clause-stops c = λ has.
    stopped _ _ c.from_residual.ensures.1
    (commit_onto _ _ _ _ (sym c.mark_stands.ensures ∙ c.if-mark_stands.true) _ (c.in_err-commit.ensures.stops has (inl refl)))

pub returns-then-mark_stands-clause-onto : goal.returns-then-mark_stands-clause-onto
returns-then-mark_stands-clause-onto c = λ has f s.
    commit_onto _ _ _ _ (sym c.mark_stands.ensures ∙ c.if-mark_stands.true) f (c.in_ok-commit.ensures.onto has (inl refl) f s)

pub returns-in_default-clause-onto : goal.returns-in_default-clause-onto
returns-in_default-clause-onto c = λ has. nothing_onto has _ _ _ (sym c.mark_stands.ensures ∙ c.if-mark_stands.false) c.in_default.ensures

pub returns-in_err-given-clause-stops : goal.returns-in_err-given-clause-stops
returns-in_err-given-clause-stops c = λ has.
    let some = c.in-Some.ensures in
    stopped _ _ c.from_residual-in_err-given.ensures.1 (handed_onto has _ _ _ (some.0.0, _, some.0.1) some.1 _ (c.in_err-given.ensures.stops has))

pub returns-clause-onto : goal.returns-clause-onto
returns-clause-onto c = λ has f s.
    let some = c.in-Some.ensures in handed_onto has _ _ _ (some.0.0, _, some.0.1) some.1 f (c.in_ok-given.ensures.onto has f s)
