use Rattle.std.proofs.Common.{◌≡◌, ◌-◌, ◌*◌, ◌++◌}
use Rattle.rand_core.specs.Steps.{first_words}
use Rattle.rand_pcg.specs.Pcg.{pcg32}
use Rattle.df_gen.specs.Generated.{generated, ticks_of}
use Rattle.df_gen.proofs.generate.gen_ticks.Given as goal

abbrev pub invariant-loop-made : goal.invariant-loop-made
invariant-loop-made l = l.ticks.items ++ ticks_of l.prices (first_words pcg32 (2 * (l.n - l._made)) l.rng) ≡ generated l.key l.n
