use Rattle.df_tables.proofs.Names.{◌∙◌, ap, set, on_ok_weaker, rows, moved_row, Unit}
use Rattle.df_tables.proofs.Each.{set_modify}
use Rattle.df_tables.proofs.moves.move_at.Goals as goal

pub returns-clause-ok : goal.returns-clause-ok
returns-clause-ok c =
    on_ok_weaker c.move_row.result
    (λ moved. ap (λ (x : Unit). set c.args.units.now c.args.place x) moved
    ∙ set_modify c.args.place (moved_row rows c.args.call.now c.args.reply.now c.args.effect.now) c.index-units-place.result c.args.units.now)
    c.move_row.ensures.ok
