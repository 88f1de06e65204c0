use Rattle.std.proofs.Common.{None, Some, sym, ap, ◌∙◌}
use Rattle.df_tables.proofs.Booked.{row_is}
use Rattle.df_machine.proofs.Units.{contamination_at}
use Rattle.df_machine.proofs.tables.Tables.contamination.Goals as goal

pub returns-in-Some : goal.returns-in-Some
returns-in-Some c core unit agrees here =
    let board = c.args.self.now.board in
    let row = rw c.in-Some.is at c.row.ensures in
    ap Some c.contamination.ensures
    ∙ contamination_at core.0 core.1 board agrees.board agrees.tells unit _ (row ∙ row_is board unit c.args.place (sym here))

pub returns-in-None : goal.returns-in-None
returns-in-None c core unit agrees here =
    let board = c.args.self.now.board in
    let row = rw c.in-None.is at c.row.ensures in
    contamination_at core.0 core.1 board agrees.board agrees.tells unit None (row ∙ row_is board unit c.args.place (sym here))
