use Rattle.df_journal_text.proofs.Names.{Option, drop, subst, sym, Label, IsKnown}
use Rattle.df_journal_text.proofs.KnownLabels.{known_stands}
use Rattle.df_journal_text.proofs.known_label.KnownLabel.standing.Goals as goal

pub returns : goal.returns
returns c =
    let bytes = c.args.bytes.now in
    let word = c.as_slice.result.now in
    let kept = subst (IsKnown c.self.inside.label) (sym c.as_slice.ensures.value) c.self.invariant in
    let known = subst (λ (label : Option Label). IsKnown label word) c.in-Some.is kept in
    (c.in_ok-end.ensures.0, known_stands c.in-Some.label word (drop c.args.at bytes) (drop c.in_ok-end.end bytes) known c.in_ok-end.ensures.1)
