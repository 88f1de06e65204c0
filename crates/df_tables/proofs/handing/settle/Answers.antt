use Rattle.df_tables.proofs.Names.{ap, arith, get_or, settled_row, LineState, Unit}
use Rattle.df_tables.proofs.Each.{each_step}
use Rattle.df_tables.proofs.handing.settle.Goals as goal

pub loop-receiver-preserved : goal.loop-receiver-preserved
loop-receiver-preserved c =
    let u = get_or c.loop-receiver.units (get_or c.args.receivers.now c.loop-receiver.receiver-index (0, 0)).0 c.index-units-receiver.result in
    each_step settled_row c.args.receivers.now c.loop-receiver.receiver-index (0, 0) c.index-units-receiver.result _ c.args.units.now c.loop-receiver.units (omega arith) c.loop-receiver.invariant
    (ap (λ (l : LineState). let x : Unit = record { local = u.local; line = l } in x) c.settle.ensures)
