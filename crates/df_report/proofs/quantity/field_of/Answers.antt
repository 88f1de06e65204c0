use Rattle.std.proofs.Common.{sym, ◌∙◌}
use Rattle.df_frozen.proofs.Nodes.{value_under-from_pairs}
use Rattle.df_report.proofs.quantity.field_of.Goals as goal

pub returns-in-Map : goal.returns-in-Map
returns-in-Map c = rw c.in-Map.is (c.get.ensures ∙ sym (value_under-from_pairs c.args.field.now c.in-Map.entries))
