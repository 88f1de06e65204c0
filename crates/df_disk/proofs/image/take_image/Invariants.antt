use Rattle.std.proofs.Common.{◌≡◌, ◌-◌, ◌≤◌}
use Rattle.df_disk.specs.Disk.{NoMore, Recedes}
use Rattle.df_disk.proofs.Taken.{IsTaken}
use Rattle.df_disk.proofs.image.take_image.Given as goal

abbrev pub invariant-pieces : goal.invariant-pieces
invariant-pieces g l = record {
  within : l.bytes.len ≤ l.size;
  read : IsTaken (g.D.Disk.bytes l.fn.disk) l.size l.bytes.len l.bytes.items;
  same : g.D.Disk.bytes l.disk ≡ g.D.Disk.bytes l.fn.disk;
  crash : NoMore (g.D.Disk.may_leave l.fn.disk) (g.D.Disk.may_leave l.disk);
  time : Recedes (g.D.Disk.moment l.fn.disk) (g.D.Disk.moment l.disk) (g.D.Disk.left_since l.fn.disk) (g.D.Disk.left_since l.disk);
  never_falls : g.D.Disk.faults l.fn.disk ≤ g.D.Disk.faults l.disk;
}

abbrev pub decreases-pieces : goal.decreases-pieces
decreases-pieces g l = l.size - l.bytes.len
