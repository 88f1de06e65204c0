use Rattle.df_durable.proofs.Names.{◌∙◌, KeptCore}
use Rattle.df_durable.proofs.Keepings.{step_failed, step_leaves, step_on_disk, step_tells}
use Rattle.df_durable.proofs.keeping.step_on.Goals as goal

pub returns-in_err-reply-clause-any_moment : goal.returns-in_err-reply-clause-any_moment
returns-in_err-reply-clause-any_moment g c =
    step_failed c.args.kept.now.core c.args.actor.now c.args.call.now g.D.Disk.bytes g.D.Disk.may_leave g.D.Disk.moment g.D.Disk.left_since
    g.met.D.Disk.only_now c.args.disk.now c.args.kept.now.gate c.requires.kept c.requires.rests

pub returns-in-Ok-clause-on_disk : goal.returns-in-Ok-clause-on_disk
returns-in-Ok-clause-on_disk g c =
    let spelled = c.in_ok-reply.ensures.spelled in
    let on : KeptCore = record { core = c.make_spelled.new.core; gate = c.in-Ok.gate } in
    step_on_disk c.args.kept.now.core c.args.actor.now c.args.call.now g.D.Disk.bytes g.D.Disk.may_leave g.D.Disk.moment g.D.Disk.left_since
    g.met.D.Disk.only_now c.args.disk.now c.args.kept.now.gate c.requires.kept c.requires.rests spelled.fits
    c.deref.result.now (c.deref.ensures.value ∙ spelled.is) c.keep.new.disk on
    c.in_ok-reply.ensures.entry c.in-Ok.ensures.kept c.keep.ensures.untold

pub returns-in-Ok-clause-tells : goal.returns-in-Ok-clause-tells
returns-in-Ok-clause-tells g c =
    let spelled = c.in_ok-reply.ensures.spelled in
    step_tells c.args.kept.now.core c.args.actor.now c.args.call.now g.D.Disk.bytes g.D.Disk.may_leave g.D.Disk.moment g.D.Disk.left_since
    g.met.D.Disk.only_now c.args.disk.now c.args.kept.now.gate c.requires.kept c.requires.rests spelled.fits
    c.deref.result.now (c.deref.ensures.value ∙ spelled.is) c.keep.new.disk
    c.in-Ok.gate c.in-Ok.ensures.kept

pub returns-in-Ok-clause-any_moment : goal.returns-in-Ok-clause-any_moment
returns-in-Ok-clause-any_moment g c =
    let spelled = c.in_ok-reply.ensures.spelled in
    step_leaves c.args.kept.now.core c.args.actor.now c.args.call.now g.D.Disk.bytes g.D.Disk.may_leave g.D.Disk.moment g.D.Disk.left_since
    g.met.D.Disk.only_now c.args.disk.now c.args.kept.now.gate c.requires.kept c.requires.rests spelled.fits
    c.deref.result.now (c.deref.ensures.value ∙ spelled.is) c.keep.new.disk
    c.keep.ensures.any_moment

pub returns-clause-any_moment : goal.returns-clause-any_moment
returns-clause-any_moment g c =
    let spelled = c.in_ok-reply.ensures.spelled in
    step_leaves c.args.kept.now.core c.args.actor.now c.args.call.now g.D.Disk.bytes g.D.Disk.may_leave g.D.Disk.moment g.D.Disk.left_since
    g.met.D.Disk.only_now c.args.disk.now c.args.kept.now.gate c.requires.kept c.requires.rests spelled.fits
    c.deref.result.now (c.deref.ensures.value ∙ spelled.is) c.keep.new.disk
    c.keep.ensures.any_moment
