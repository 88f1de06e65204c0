use Rattle.df_journal_text.proofs.KnownLabels.{label_known, label_onward}
use Rattle.df_journal_text.proofs.known_label.KnownLabel.learned_at.Goals as goal

pub between-requires-clause-order : goal.between-requires-clause-order
between-requires-clause-order c =
    label_onward c.args.bytes.now c.args.at c.in_ok-label.end c.requires c.in_ok-label.ensures.0 c.in_ok-label.label c.in_ok-label.ensures.1

pub known-requires : goal.known-requires
known-requires c =
    rw c.between.ensures
    (label_known c.args.bytes.now c.args.at c.in_ok-label.end c.requires c.in_ok-label.ensures.0 c.in_ok-label.label c.in_ok-label.ensures.1)
