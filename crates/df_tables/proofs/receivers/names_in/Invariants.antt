use Rattle.df_tables.proofs.Names.{◌≡◌, take, receivers_of, names_at}
use Rattle.df_tables.proofs.receivers.names_in.Given as goal

abbrev pub invariant-loop-receiver : goal.invariant-loop-receiver
invariant-loop-receiver l = l.names.items ≡ names_at l.rows (take l.receiver-index (receivers_of l.ready))
