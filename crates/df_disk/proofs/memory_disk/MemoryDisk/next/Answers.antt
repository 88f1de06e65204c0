use Rattle.std.proofs.Common.{List, length, ap, arith}
use Rattle.df_disk.specs.MemoryDisk.{DiskState}
use Rattle.df_disk.specs.declared.memory_disk.Call.{Call}
use Rattle.df_disk.proofs.Memory.{length_past}
use Rattle.df_disk.proofs.memory_disk.MemoryDisk.next.Goals as goal

pub returns : goal.returns
returns c =
    let view = ap (λ (d : DiskState). length d.past) c.self.view_is in
    let kept = ap (λ (l : List Call). length l) c.as_slice.ensures.value in
    omega (arith, view, kept, length_past c.self.inside.calls.items c.self.inside.pieces.items)
