use Rattle.df_journal_file.proofs.Names.{inr, refl, sym, ◌∙◌}
use Rattle.df_journal_file.proofs.Ontos.{stopped}
use Rattle.df_journal_file.proofs.Opens.{emitted_whole}
use Rattle.df_journal_file.proofs.Places.{as_here}
use Rattle.df_journal_file.proofs.Steps.{emitted_onto}
use Rattle.df_journal_file.proofs.entry.entry_at.Goals as goal

pub returns-in_err-commit-clause-stops : goal.returns-in_err-commit-clause-stops
returns-in_err-commit-clause-stops c = λ none.
    stopped _ _ c.from_residual.ensures.1
    (emitted_onto _ _ _ (sym c.byte_stands.ensures ∙ c.if-not-byte_stands.false) _ (c.in_err-commit.ensures.stops _ (inr refl)))

pub returns-then-not-byte_stands : goal.returns-then-not-byte_stands
returns-then-not-byte_stands c =
    let d = c.done_at.ensures in
    record { read = d.read; onward = d.onward; onto = d.onto; stops = λ none. d.stops (none, sym c.byte_stands.ensures ∙ c.if-not-byte_stands.true) }

pub returns : goal.returns
returns c =
    let commit = c.in_ok-commit.ensures in
    record {
      read = as_here commit.read (emitted_whole _ _ commit.read.fits) refl;
      onward = commit.onward;
      onto = λ f s. emitted_onto _ _ _ (sym c.byte_stands.ensures ∙ c.if-not-byte_stands.false) f (commit.onto _ (inr refl) f s);
      stops = λ none. tt;
    }
