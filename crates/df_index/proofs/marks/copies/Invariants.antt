use Rattle.std.proofs.Common.{◌≡◌, take}
use Rattle.df_index.proofs.marks.copies.Given as goal

abbrev pub invariant-loop-receivers : goal.invariant-loop-receivers
invariant-loop-receivers l = l.copies.items ≡ take l.receivers-index l.handed
