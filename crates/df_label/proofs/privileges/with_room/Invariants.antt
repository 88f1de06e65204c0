use Rattle.std.proofs.Common.{◌≡◌, take}
use Rattle.df_label.proofs.privileges.with_room.Given as goal

abbrev pub invariant-loop-q : goal.invariant-loop-q
invariant-loop-q l = l.copies.items ≡ take l.q-index l.list
