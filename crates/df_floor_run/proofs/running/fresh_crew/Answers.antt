use Rattle.df_floor_run.proofs.Names.{List, ap, sym, ◌∙◌, length, paired}
use Rattle.df_floor_run.proofs.running.fresh_crew.Goals as goal

pub start-requires : goal.start-requires
start-requires c =
    ap (λ (bs : List _). length bs) c.in_ok-brains.ensures
    ∙ paired c.args.config.now c.in_ok-ticks.ticks c.requires.config
    ∙ sym (ap (λ (roots : List _). length roots) c.in_ok-start.ensures)
