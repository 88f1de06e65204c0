use Rattle.df_tables.proofs.Names.{◌∙◌}
use Rattle.df_tables.proofs.board.Board.close_handle.Goals as goal

pub close_at-requires-clause-seated : goal.close_at-requires-clause-seated
close_at-requires-clause-seated c = (c.requires.seated.0, c.requires.seated.1 ∙ c.in-Some.is)
