use Rattle.df_tables.proofs.Names.{◌∙◌, ap, arith, get_or, set, set-get_or, each, quiet_row, staged_row, Unit}
use Rattle.df_tables.proofs.Each.{each_step}
use Rattle.df_memory.proofs.Errors.{on_err}
use Rattle.df_tables.proofs.Handed.{half_way}
use Rattle.df_tables.proofs.handing.stage.Goals as goal

pub loop-receiver-preserved : goal.loop-receiver-preserved
loop-receiver-preserved c =
    each_step (staged_row c.args.event.now c.args.after.now) c.args.receivers.now c.loop-receiver.receiver-index (0, 0) c.index-units-receiver.result _ c.args.units.now c.loop-receiver.units (omega arith) c.loop-receiver.invariant
    c.in_ok-stage_at.ensures.ok

pub returns-in_err-stage_at-clause-quiet : goal.returns-in_err-stage_at-clause-quiet
returns-in_err-stage_at-clause-quiet c =
    let k = (get_or c.args.receivers.now c.loop-receiver.receiver-index (0, 0)).0 in
    on_err c.from_residual.result
    (ap (λ (x : Unit). each quiet_row c.args.receivers.now (set c.loop-receiver.units k x)) c.in_err-stage_at.ensures.unchanged
    ∙ ap (each quiet_row c.args.receivers.now) (set-get_or c.loop-receiver.units k c.index-units-receiver.result)
    ∙ ap (each quiet_row c.args.receivers.now) c.loop-receiver.invariant
    ∙ half_way c.args.event.now c.args.after.now c.args.receivers.now c.loop-receiver.receiver-index c.args.units.now)
