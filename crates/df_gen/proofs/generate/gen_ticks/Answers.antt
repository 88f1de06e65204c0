use Rattle.std.proofs.Common.{◌*◌, List, length, replicate, sym, ap, subst, ◌∙◌}
use Rattle.std.specs.Prelude.{All}
use Rattle.rand_core.specs.Pcg32Seed.{pcg32_seed}
use Rattle.rand_core.specs.Steps.{first_words}
use Rattle.rand_pcg.specs.Pcg.{pcg32, pcg32_of_seed}
use Rattle.df_ticks.specs.TickFile.{IsTick}
use Rattle.df_ticks.specs.declared.tick.Tick.{Tick}
use Rattle.df_gen.specs.Generated.{generated}
use Rattle.df_gen.proofs.Walk.{stepped, ended, all_in_form, count_is}
use Rattle.df_gen.proofs.generate.gen_ticks.Goals as goal

pub loop-made-preserved : goal.loop-made-preserved
loop-made-preserved c =
    stepped c.loop-made.ticks.items c.push.new.self.items c.in_ok-next_tick.field-0 c.loop-made.prices c.next_tick.new.prices c.loop-made.rng c.next_tick.new.rng c.args.n c.loop-made._made
    (generated c.args.key c.args.n) c.loop-made-test.true c.in_ok-push.ensures.items c.in_ok-next_tick.ensures.tick c.in_ok-next_tick.ensures.prices c.in_ok-next_tick.ensures.rng c.loop-made.invariant

pub returns-clause-ticks : goal.returns-clause-ticks
returns-clause-ticks c = ended c.loop-made.ticks.items (generated c.args.key c.args.n) c.loop-made.prices c.loop-made.rng c.args.n c.loop-made._made c.loop-made-test.false c.loop-made.invariant

pub returns-clause-in_form : goal.returns-clause-in_form
returns-clause-in_form c =
    let all = ended c.loop-made.ticks.items (generated c.args.key c.args.n) c.loop-made.prices c.loop-made.rng c.args.n c.loop-made._made c.loop-made-test.false c.loop-made.invariant in
    subst (λ (ts : List Tick). All IsTick ts) (sym all) (all_in_form (replicate 4 10_000) (first_words pcg32 (2 * c.args.n) (pcg32_of_seed (pcg32_seed 16 c.args.key))))

pub returns-clause-count : goal.returns-clause-count
returns-clause-count c =
    let all = ended c.loop-made.ticks.items (generated c.args.key c.args.n) c.loop-made.prices c.loop-made.rng c.args.n c.loop-made._made c.loop-made-test.false c.loop-made.invariant in
    ap length all ∙ count_is c.args.n (replicate 4 10_000) (pcg32_of_seed (pcg32_seed 16 c.args.key))
