-- Only equal units are level in their order.
use Rattle.std.proofs.Common.{ap, ◌∙◌}
use Rattle.std.specs.Ordering.{is_eq}
use Rattle.df_label.proofs.SetFacts.{IsExactOrder}
use Rattle.df_unit.specs.UnitOrder.{unit_cmp}
use Rattle.df_unit.specs.UnitOrderLaws.{unit_cmp_total, unit_cmp_ties}
use Rattle.df_unit.proofs.SameFacts.{same_name-exact}

pub unit_cmp_exact : IsExactOrder unit_cmp
unit_cmp_exact = record { total = unit_cmp_total; exact = λ u v e. same_name-exact u v (unit_cmp_ties u v ∙ ap is_eq e) }
