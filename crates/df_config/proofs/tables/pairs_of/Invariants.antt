use Rattle.std.proofs.Common.{◌≡◌, drop}
use Rattle.toml.specs.View.{items_view}
use Rattle.df_config.specs.ConfigTable.{each, pair_of}
use Rattle.df_config.proofs.Told.{behind}
use Rattle.df_config.proofs.tables.pairs_of.Given as goal

abbrev pub invariant-loop-value : goal.invariant-loop-value
invariant-loop-value l = behind l.rows.items (each pair_of (items_view (drop l.value-index l.values))) ≡ each pair_of (items_view l.values)
