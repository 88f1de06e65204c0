use Rattle.df_why.proofs.Making.{IsMadeSoFar}
use Rattle.df_why.proofs.firsts.where_made.Given as goal

abbrev pub invariant-loop-place : goal.invariant-loop-place
invariant-loop-place l = IsMadeSoFar l.count l.tracks l.place l.made.items
