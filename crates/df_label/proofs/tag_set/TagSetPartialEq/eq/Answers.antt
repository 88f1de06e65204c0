use Rattle.std.specs.Cmp.Lexicographic.{pointwise_decides, bytes_decides}
use Rattle.std.proofs.lemmas.Bool.Decides.{same_from_decides}
use Rattle.df_label.proofs.tag_set.TagSetPartialEq.eq.Goals as goal

pub returns : goal.returns
returns c = same_from_decides _ _ c.same.ensures (pointwise_decides bytes_decides c.args.self.now c.args.other.now)
