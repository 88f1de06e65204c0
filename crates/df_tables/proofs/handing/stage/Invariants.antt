use Rattle.df_tables.proofs.Names.{◌≡◌, take, each, staged_row}
use Rattle.df_tables.proofs.handing.stage.Given as goal

abbrev pub invariant-loop-receiver : goal.invariant-loop-receiver
invariant-loop-receiver l = l.units ≡ each (staged_row l.event l.after) (take l.receiver-index l.receivers) l.initial.units
