use Rattle.df_tables.proofs.Names.{sym, ◌∙◌}
use Rattle.df_tables.proofs.Booked.{row_is}
use Rattle.df_tables.proofs.board.Board.unit.Goals as goal

pub returns : goal.returns
returns c = c.row.ensures ∙ row_is c.args.self.now c.args.name.now c.place.result (sym c.place.ensures)
