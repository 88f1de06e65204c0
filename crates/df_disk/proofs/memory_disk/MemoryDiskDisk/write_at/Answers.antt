use Rattle.std.proofs.Common.{List, length, sym, ◌∙◌, ap, subst}
use Rattle.df_disk.specs.Disk.{Follows, Torn}
use Rattle.df_disk.specs.MemoryDisk.{DiskState, MayLeave, Past}
use Rattle.df_disk.proofs.Memory.{wrote_follows}
use Rattle.df_disk.proofs.memory_disk.MemoryDiskDisk.write_at.Goals as goal

pub returns-then-done-clause-crash : goal.returns-then-done-clause-crash
returns-then-done-clause-crash c =
    let past = c.args.self.now.past in
    let piece = c.args.piece.now in
    subst (λ (p : List Past). Follows (Torn c.args.at (length piece)) (MayLeave past) (MayLeave p)) (sym (ap (λ (d : DiskState). d.past) c.put.ensures))
    (wrote_follows past c.args.at piece _ c.requires)

pub returns-clause-crash : goal.returns-clause-crash
returns-clause-crash c =
    let past = c.args.self.now.past in
    let piece = c.args.piece.now in
    subst (λ (p : List Past). Follows (Torn c.args.at (length piece)) (MayLeave past) (MayLeave p))
    (sym (ap (λ (d : DiskState). d.past) c.count.ensures.counted ∙ ap (λ (d : DiskState). d.past) c.put.ensures))
    (wrote_follows past c.args.at piece _ c.requires)
