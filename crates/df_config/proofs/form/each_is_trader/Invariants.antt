use Rattle.std.proofs.Common.{ℕ, ◌<◌}
use Rattle.std.specs.Prelude.{slice_index_or}
use Rattle.df_config.specs.ConfigForm.{IsTrader}
use Rattle.df_config.specs.declared.trader.TraderRow.{TraderRow}
use Rattle.df_config.proofs.form.each_is_trader.Given as goal

abbrev pub invariant-loop-trader : goal.invariant-loop-trader
invariant-loop-trader l = (k : ℕ) (d : TraderRow) → k < l.trader-index → IsTrader l.count (slice_index_or l.traders k d)
