use Rattle.std.proofs.Common.{◌≡◌, ◌+◌, length}
use Rattle.df_label.specs.Ascending.{IsAscending}
use Rattle.df_label.specs.Tag.{tag_cmp}
use Rattle.df_label.specs.TagSet.{first_missing}
use Rattle.df_label.proofs.tags.first_missing.Given as goal

abbrev pub invariant-loop-t : goal.invariant-loop-t
invariant-loop-t l = record {
  same : first_missing l.left l.rest ≡ first_missing l.tags l.of;
  left : IsAscending tag_cmp l.left;
  rest : IsAscending tag_cmp l.rest;
}

abbrev pub decreases-loop-t : goal.decreases-loop-t
decreases-loop-t l = length l.left + length l.rest
