use Rattle.df_tables.proofs.Names.{ap, get_or, set, ◌∙◌, LocalState, rows, Instantiate, Effect, Reply, moved_row, Unit}
use Rattle.df_tables.proofs.Each.{set_modify}
use Rattle.df_tables.proofs.births.count_child.Goals as goal

pub returns : goal.returns
returns c =
    let us = c.args.units.now in
    let d = c.index-units-place.result in
    let u = get_or us c.args.place d in
    ap (λ (l : LocalState). let x : Unit = record { local = l; line = u.line } in set us c.args.place x) c.count_unit.ensures
    ∙ set_modify c.args.place (moved_row rows (Instantiate c.args.s.now c.args.privileges.now) (Reply.Unit c.args.number) Effect.Nothing) d us
