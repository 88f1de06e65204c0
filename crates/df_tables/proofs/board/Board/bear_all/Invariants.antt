use Rattle.df_tables.proofs.Names.{◌≡◌, All, into_iter_items, into_iter_len, IsNewborn, all_new, rows_in, HasRoom, IsBoard}
use Rattle.df_tables.proofs.board.Board.bear_all.Given as goal

abbrev pub invariant-births : goal.invariant-births
invariant-births l = record {
  board : IsBoard l.self;
  newborn : All IsNewborn (into_iter_items l.one-iterator);
  room : HasRoom (into_iter_len l.one-iterator) l.self;
  rows : all_new (rows_in (into_iter_items l.one-iterator)) l.self.rows.items ≡ all_new (rows_in l.fn.born.items) l.initial.self.rows.items;
  events : l.self.events ≡ l.initial.self.events;
  index : l.self.index ≡ l.initial.self.index;
  managed : l.self.managed ≡ l.initial.self.managed;
  told : l.self.marks.handed ≡ l.initial.self.marks.handed;
}
