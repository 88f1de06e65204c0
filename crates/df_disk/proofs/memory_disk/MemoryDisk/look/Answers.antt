use Rattle.std.proofs.Common.{◌≡◌, List, length, sym, ◌∙◌, ap, arith}
use Rattle.df_disk.specs.MemoryDisk.{DiskState, bytes_after, looked, past_of, total}
use Rattle.df_disk.specs.declared.memory_disk.Call.{Call}
use Rattle.df_disk.specs.declared.memory_disk.Call.TheVariants.{Looked}
use Rattle.df_disk.proofs.Memory.{made_is, past_looked, total_more}
use Rattle.df_disk.proofs.memory_disk.MemoryDisk.look.Goals as goal

pub returns : goal.returns
returns c =
    let inside = c.self.inside in
    let more = ap (λ (l : List Call). past_of l inside.pieces.items) c.keep.ensures.items ∙ past_looked inside.calls.items inside.pieces.items in
    made_is c.args.self.now looked (past_of c.keep.new.calls.items inside.pieces.items) (past_of inside.calls.items inside.pieces.items) inside.failing.items
    inside.room inside.calls_left inside.faults c.self.view_is more

pub invariant_of-self : goal.invariant_of-self
invariant_of-self c =
    let inside = c.self.inside in
    let inv = c.self.invariant in
    let more = ap (λ (l : List Call). past_of l inside.pieces.items) c.keep.ensures.items ∙ past_looked inside.calls.items inside.pieces.items in
    let left : inside.calls_left ≡ c.args.self.now.calls_left = ap (λ (d : DiskState). d.calls_left) c.self.view_is in
    let counted : total c.keep.new.calls.items ≡ length inside.pieces.items =
    let a = ap total c.keep.ensures.items in
    let b = total_more inside.calls.items Looked in
    omega (arith, a, b, inv.0) in (
      counted,
      inv.1 ∙ sym (ap bytes_after more),
      inv.2,
      inv.3,
      omega (arith, inv.4, left, c.requires, c.keep.ensures.len, c.keep.ensures.capacity),
    )
