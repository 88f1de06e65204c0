use Rattle.df_tables.proofs.board.Board.make_ready.Given as goal

abbrev pub ghosts-receivers : goal.ghosts-receivers
ghosts-receivers a = record { name = a.blank.name; parts = a.blank.parts }
