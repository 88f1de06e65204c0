use Rattle.df_tables.proofs.Names.{◌≡◌, ◌+◌, ◌++◌, drop, rows_in, places_from}
use Rattle.df_tables.proofs.commits.put_places.Given as goal

abbrev pub invariant-loop : goal.invariant-loop
invariant-loop l = record {
  place : l.place ≡ l.rows + l.index;
  places : l.to.items ++ places_from l.place (rows_in (drop l.index l.born)) ≡ l.fn.to.items ++ places_from l.rows (rows_in l.born);
}
