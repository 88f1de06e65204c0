use Rattle.std.proofs.Common.{◌≡◌, drop}
use Rattle.toml.specs.View.{items_view}
use Rattle.df_config.specs.ConfigTable.{each, trader_of}
use Rattle.df_config.proofs.Told.{behind}
use Rattle.df_config.proofs.tables.traders_of.Given as goal

abbrev pub invariant-loop-value : goal.invariant-loop-value
invariant-loop-value l = behind l.rows.items (each trader_of (items_view (drop l.value-index l.values))) ≡ each trader_of (items_view l.values)
