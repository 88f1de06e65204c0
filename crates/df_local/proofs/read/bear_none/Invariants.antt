use Rattle.df_local.proofs.Names.{◌≡◌, [], take, privileges_of}
use Rattle.df_local.proofs.read.bear_none.Given as goal

abbrev pub invariant-loop-part : goal.invariant-loop-part
invariant-loop-part l = privileges_of (take l.part-index l.shown) ≡ []
