use Rattle.std.proofs.Common.{◌≡◌, take}
use Rattle.df_label.specs.TagSet.{without}
use Rattle.df_label.proofs.tags.without.Given as goal

abbrev pub invariant-loop-u : goal.invariant-loop-u
invariant-loop-u l = l.kept.items ≡ without (take l.u-index l.tags) l.t
