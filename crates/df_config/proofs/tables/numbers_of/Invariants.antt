use Rattle.std.proofs.Common.{◌≡◌, drop}
use Rattle.toml.specs.View.{items_view}
use Rattle.df_config.specs.ConfigTable.{each, number_of}
use Rattle.df_config.proofs.Told.{behind}
use Rattle.df_config.proofs.tables.numbers_of.Given as goal

abbrev pub invariant-loop-value : goal.invariant-loop-value
invariant-loop-value l = behind l.numbers.items (each number_of (items_view (drop l.value-index l.values))) ≡ each number_of (items_view l.values)
