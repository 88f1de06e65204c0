-- The sums of a summary with one part more.
use Rattle.std.specs.Prelude.{codes}
use Rattle.df_part.specs.declared.part.Part.{Part}
use Rattle.df_report.specs.Summing.{counted, with_trade}
use Rattle.df_report.specs.declared.report.Summary.{Summary}

abbrev pub tallied : Summary → Part → Summary
tallied sum p = record {
  ticks = counted (codes "tick") sum.ticks p;
  matches = counted (codes "match") sum.matches p;
  orders = counted (codes "order") sum.orders p;
  trades = counted (codes "trade") sum.trades p;
  quantity = with_trade sum.quantity p;
  warnings = counted (codes "warning") sum.warnings p;
  instances = sum.instances;
}
