use Rattle.std.proofs.Common.{◌≡◌, ◌+◌, ◌++◌, length}
use Rattle.df_label.specs.Ascending.{IsAscending}
use Rattle.df_label.specs.Tag.{tag_cmp}
use Rattle.df_label.specs.TagSet.{union}
use Rattle.df_label.proofs.tags.union.Given as goal

abbrev pub invariant-loop-t : goal.invariant-loop-t
invariant-loop-t l = record {
  same : l.all.items ++ union l.left l.right ≡ union l.tags l.others;
  left : IsAscending tag_cmp l.left;
  right : IsAscending tag_cmp l.right;
}

abbrev pub decreases-loop-t : goal.decreases-loop-t
decreases-loop-t l = length l.left + length l.right
