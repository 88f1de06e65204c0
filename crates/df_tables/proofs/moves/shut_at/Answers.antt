use Rattle.df_tables.proofs.Names.{◌∙◌, ap, set, get_or, LocalState, shut_row, Unit}
use Rattle.df_tables.proofs.Each.{set_modify}
use Rattle.df_tables.proofs.moves.shut_at.Goals as goal

pub returns : goal.returns
returns c =
    let us = c.args.units.now in
    let d = c.index-units-place.result in
    let u = get_or us c.args.place d in
    ap (λ (l : LocalState). let x : Unit = record { local = l; line = u.line } in set us c.args.place x) c.shut.ensures
    ∙ set_modify c.args.place (shut_row c.args.h) d us
