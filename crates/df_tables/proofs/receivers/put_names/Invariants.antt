use Rattle.df_tables.proofs.Names.{◌≡◌, ◌++◌, take, rows_in, names_of}
use Rattle.df_tables.proofs.receivers.put_names.Given as goal

abbrev pub invariant-loop-one : goal.invariant-loop-one
invariant-loop-one l = l.to.items ≡ l.fn.to.items ++ names_of (rows_in (take l.one-index l.born))
