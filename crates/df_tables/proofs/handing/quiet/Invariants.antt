use Rattle.df_tables.proofs.Names.{◌≡◌, take, each, quiet_row}
use Rattle.df_tables.proofs.handing.quiet.Given as goal

abbrev pub invariant-loop-receiver : goal.invariant-loop-receiver
invariant-loop-receiver l = l.units ≡ each quiet_row (take l.receiver-index l.receivers) l.initial.units
