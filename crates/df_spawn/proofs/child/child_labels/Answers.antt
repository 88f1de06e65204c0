use Rattle.df_label.specs.TagSet.{union}
use Rattle.df_label.proofs.TagSetFacts.{is_subset-refl, is_subset-union_right, meet-is_subset_left, meet-is_subset_right}
use Rattle.df_spawn.specs.Child.{secrets}
use Rattle.df_spawn.proofs.child.child_labels.Goals as goal

pub returns-clause-reads : goal.returns-clause-reads
returns-clause-reads c =
    rw (c.in_ok-child.ensures.input, c.in_ok-child.ensures.output) (is_subset-refl (secrets c.args.input.now c.args.output.now c.args.s.now))

pub returns-clause-writes : goal.returns-clause-writes
returns-clause-writes c =
    rw c.in_ok-child.ensures.output (is_subset-union_right (union c.args.s.now c.args.input.now.s) c.args.output.now.s)

pub returns-clause-read_integrity : goal.returns-clause-read_integrity
returns-clause-read_integrity c =
    rw (c.in_ok-child.ensures.input, c.in_ok-child.ensures.output) (meet-is_subset_left c.args.input.now.i c.args.output.now.i)

pub returns-clause-written_integrity : goal.returns-clause-written_integrity
returns-clause-written_integrity c =
    rw c.in_ok-child.ensures.output (meet-is_subset_right c.args.input.now.i c.args.output.now.i)
