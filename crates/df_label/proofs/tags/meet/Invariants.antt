use Rattle.std.proofs.Common.{◌≡◌, take}
use Rattle.df_label.specs.TagSet.{meet}
use Rattle.df_label.proofs.tags.meet.Given as goal

abbrev pub invariant-loop-t : goal.invariant-loop-t
invariant-loop-t l = l.kept.items ≡ meet (take l.t-index l.tags) l.others
