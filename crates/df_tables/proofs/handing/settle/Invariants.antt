use Rattle.df_tables.proofs.Names.{◌≡◌, take, each, settled_row}
use Rattle.df_tables.proofs.handing.settle.Given as goal

abbrev pub invariant-loop-receiver : goal.invariant-loop-receiver
invariant-loop-receiver l = l.units ≡ each settled_row (take l.receiver-index l.receivers) l.initial.units
