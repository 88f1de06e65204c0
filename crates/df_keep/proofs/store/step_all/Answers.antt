use Rattle.std.proofs.Common.{refl, sym, subst, arith}
use Rattle.df_keep.specs.Storing.{StopsStepping}
use Rattle.df_keep.proofs.Begun.{stops_unstepped}
use Rattle.df_keep.proofs.Runs.{so_far_all, so_far_leaves, so_far_more, so_far_none}
use Rattle.df_keep.proofs.store.step_all.Goals as goal

pub loop-line-init : goal.loop-line-init
loop-line-init g c = so_far_none g.D.Disk.bytes g.D.Disk.may_leave g.D.Disk.moment g.D.Disk.left_since g.D.Disk.faults c.args.disk.now
    c.args.kept.now.core c.args.lines.now
    g.met.D.Disk.only_now c.args.kept.now refl c.requires

pub loop-line-preserved : goal.loop-line-preserved
loop-line-preserved g c = so_far_more g.D.Disk.bytes g.D.Disk.may_leave g.D.Disk.moment g.D.Disk.left_since g.D.Disk.faults c.args.disk.now
    c.args.kept.now.core c.args.lines.now c.loop-line.line-index c.line-item.result c.loop-line-test.true c.line-item.is c.loop-line.disk c.step_on.new.disk
    c.loop-line.kept c.loop-line.invariant c.step_on.ensures.any_moment
    c.step_on.new.kept c.in-Ok.ensures.entry c.in-Ok.ensures.on_disk c.in-Ok.ensures.tells c.step_on.ensures.never_falls

pub returns-in-Err-clause-any_moment : goal.returns-in-Err-clause-any_moment
returns-in-Err-clause-any_moment g c = so_far_leaves g.D.Disk.bytes g.D.Disk.may_leave g.D.Disk.moment g.D.Disk.left_since g.D.Disk.faults c.args.disk.now
    c.args.kept.now.core c.args.lines.now c.loop-line.line-index c.line-item.result c.loop-line-test.true c.line-item.is c.loop-line.disk c.step_on.new.disk
    c.loop-line.kept c.loop-line.invariant c.step_on.ensures.any_moment

pub returns-in-Err-clause-stops : goal.returns-in-Err-clause-stops
returns-in-Err-clause-stops g c = subst (StopsStepping (g.D.Disk.faults c.args.disk.now) (g.D.Disk.faults c.step_on.new.disk)) (sym c.not_kept.ensures)
    (stops_unstepped (g.D.Disk.faults c.args.disk.now) (g.D.Disk.faults c.loop-line.disk) (g.D.Disk.faults c.step_on.new.disk) c.in-Err.why
    c.loop-line.invariant.falls c.in-Err.ensures.fault)

pub returns-in-Err-clause-never_falls : goal.returns-in-Err-clause-never_falls
returns-in-Err-clause-never_falls g c = omega (arith, c.loop-line.invariant.falls, c.step_on.ensures.never_falls)

pub returns-clause-made : goal.returns-clause-made
returns-clause-made g c = so_far_all g.D.Disk.bytes g.D.Disk.may_leave g.D.Disk.moment g.D.Disk.left_since g.D.Disk.faults c.args.disk.now
    c.args.kept.now.core c.args.lines.now
    c.loop-line.line-index c.loop-line.disk c.loop-line.kept c.loop-line-test.false c.loop-line.invariant
