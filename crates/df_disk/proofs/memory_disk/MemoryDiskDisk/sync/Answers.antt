use Rattle.std.proofs.Common.{List, ap, subst}
use Rattle.df_disk.specs.MemoryDisk.{DiskState, MayLeave, Past}
use Rattle.df_disk.proofs.Memory.{synced_no_more}
use Rattle.df_disk.proofs.memory_disk.MemoryDiskDisk.sync.Goals as goal

pub returns-clause-crash : goal.returns-clause-crash
returns-clause-crash c = λ image now. synced_no_more c.args.self.now.past image
    (subst (λ (p : List Past). MayLeave p image) (ap (λ (d : DiskState). d.past) c.settle.ensures) now)
