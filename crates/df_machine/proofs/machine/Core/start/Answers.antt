use Rattle.std.proofs.Common.{List, reverse, sym, subst}
use Rattle.df_unit.specs.declared.entry.Entry.{Entry}
use Rattle.df_machine.specs.Tables.{AgreesWith}
use Rattle.df_machine.proofs.machine.Core.start.Goals as goal

pub invariant_of-result : goal.invariant_of-result
invariant_of-result c = subst (λ (j : List Entry). AgreesWith (c.args.start, reverse j) c.in_ok-tables.tables) (sym c.new.ensures.items) c.in_ok-tables.ensures
