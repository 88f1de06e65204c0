use Rattle.df_tables.proofs.Names.{◌≡◌, All, take, IsNewborn, rows_in, births_by, pairs_by}
use Rattle.df_tables.proofs.board.Board.called.Given as goal

abbrev pub invariant-loop-instance : goal.invariant-loop-instance
invariant-loop-instance l = record {
  newborn : All IsNewborn l.called.born.items;
  pairs : l.called.pairs.items ≡ pairs_by l.self.rows.items l.self.managed l.self.marks.handed l.event (take l.instance-index l.instance-items);
  born : rows_in l.called.born.items ≡ births_by l.self.rows.items l.self.managed l.commit.event l.after (take l.instance-index l.instance-items);
}
