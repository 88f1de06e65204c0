use Rattle.df_keep.proofs.Runs.{IsSoFar}
use Rattle.df_keep.proofs.store.step_all.Given as goal

abbrev pub invariant-loop-line : goal.invariant-loop-line
invariant-loop-line g l = IsSoFar g.D.Disk.bytes g.D.Disk.may_leave g.D.Disk.moment g.D.Disk.left_since g.D.Disk.faults l.fn.disk l.fn.kept.core l.lines
    l.line-index l.disk l.kept
