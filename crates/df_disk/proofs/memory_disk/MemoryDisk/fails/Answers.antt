use Rattle.std.proofs.Common.{◌≡◌, ap, ◌∙◌, arith}
use Rattle.df_disk.specs.MemoryDisk.{DiskState}
use Rattle.df_disk.proofs.Memory.{fails_where}
use Rattle.df_disk.proofs.memory_disk.MemoryDisk.fails.Goals as goal

pub returns-else-self-eq0 : goal.returns-else-self-eq0
returns-else-self-eq0 c =
    let left : c.self.inside.calls_left ≡ c.args.self.now.calls_left = ap (λ (d : DiskState). d.calls_left) c.self.view_is in
    fails_where c.args.self.now c.deref.result.now c.next.result (c.deref.ensures.value ∙ ap (λ (d : DiskState). d.failing) c.self.view_is) c.next.ensures
    c.is_failing.ensures
    (λ none. absurd (omega (arith, c.if-self-eq0.false, left, none)))
