use Rattle.std.proofs.Common.{ℕ, ◌<◌}
use Rattle.std.specs.Prelude.{slice_index_or}
use Rattle.df_config.specs.ConfigForm.{IsPair}
use Rattle.df_config.specs.declared.pair.PairRow.{PairRow}
use Rattle.df_config.proofs.form.each_is_pair.Given as goal

abbrev pub invariant-loop-pair : goal.invariant-loop-pair
invariant-loop-pair l = (k : ℕ) (d : PairRow) → k < l.pair-index → IsPair (slice_index_or l.pairs k d)
