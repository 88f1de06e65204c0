use Rattle.df_purge.proofs.Names.{ap, ◌∙◌, flat_map, take_all, left_noted}
use Rattle.df_purge.proofs.ByNotes.{purged_by_notes}
use Rattle.df_purge.proofs.noted.purge_noted.Goals as goal

pub returns : goal.returns
returns c = λ roots right.
    purged_by_notes roots c.args.label.now c.args.journal.now c.loop-kept.left.items (c.loop-kept.invariant ∙ ap (flat_map (left_noted c.args.label.now)) (take_all c.loop-kept.kept-index c.args.journal.now c.loop-kept-test.false)) right
