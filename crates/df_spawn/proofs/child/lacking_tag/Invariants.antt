use Rattle.std.proofs.Common.{◌≡◌, drop}
use Rattle.df_spawn.specs.Child.{lacking_tag}
use Rattle.df_spawn.proofs.child.lacking_tag.Given as goal

abbrev pub invariant-loop-tag : goal.invariant-loop-tag
invariant-loop-tag l = lacking_tag l.input l.output l.held (drop l.tag-index l.tag-items) ≡ lacking_tag l.input l.output l.held l.s
