use Rattle.std.proofs.Common.{sym}
use Rattle.df_machine.proofs.tables.Tables.root.Goals as goal

pub returns-in-Some : goal.returns-in-Some
returns-in-Some c = sym (rw c.in-Some.is at c.root.ensures)
