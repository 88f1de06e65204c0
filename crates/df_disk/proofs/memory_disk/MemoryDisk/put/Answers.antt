use Rattle.std.proofs.Common.{◌≡◌, ℕ, List, [], ◌∷◌, ◌++◌, length, if◌then◌else◌, sym, ◌∙◌, ap, arith, length-append}
use Rattle.df_disk.specs.Disk.{overwritten}
use Rattle.df_disk.specs.MemoryDisk.{DiskState, bytes_after, past_of, total, wrote}
use Rattle.df_disk.specs.declared.memory_disk.Call.{Call}
use Rattle.df_disk.specs.declared.memory_disk.Call.TheVariants.{Wrote}
use Rattle.df_disk.proofs.Memory.{past_wrote, put_is, total_more}
use Rattle.df_disk.proofs.memory_disk.MemoryDisk.put.Goals as goal

pub returns : goal.returns
returns c =
    let inside = c.self.inside in
    let piece = c.args.piece.now in
    let more = ap (λ (l : List Call). past_of l c.extend.new.bytes.items) c.keep.ensures.items
    ∙ ap (past_of (inside.calls.items ++ Wrote c.args.at (length piece) c.args.done ∷ [])) c.extend.ensures.items
    ∙ past_wrote inside.calls.items inside.pieces.items piece c.args.at c.args.done c.self.invariant.0 in
    put_is c.args.self.now (wrote c.args.at piece c.args.done) (length piece) (past_of c.keep.new.calls.items c.extend.new.bytes.items)
    (past_of inside.calls.items inside.pieces.items) inside.failing.items inside.room inside.calls_left inside.faults c.self.view_is more

pub invariant_of-self : goal.invariant_of-self
invariant_of-self c =
    let inside = c.self.inside in
    let inv = c.self.invariant in
    let piece = c.args.piece.now in
    let more = ap (λ (l : List Call). past_of l c.extend.new.bytes.items) c.keep.ensures.items
    ∙ ap (past_of (inside.calls.items ++ Wrote c.args.at (length piece) c.args.done ∷ [])) c.extend.ensures.items
    ∙ past_wrote inside.calls.items inside.pieces.items piece c.args.at c.args.done inv.0 in
    let left : inside.calls_left ≡ c.args.self.now.calls_left = ap (λ (d : DiskState). d.calls_left) c.self.view_is in
    let room : inside.room ≡ c.args.self.now.room = ap (λ (d : DiskState). d.room) c.self.view_is in
    let counted : total c.keep.new.calls.items ≡ length c.extend.new.bytes.items =
    let a = ap total c.keep.ensures.items in
    let b = total_more inside.calls.items (Wrote c.args.at (length piece) c.args.done) in
    let d = ap (λ (l : List ℕ). length l) c.extend.ensures.items in
    omega (arith, a, b, d, inv.0, length-append inside.pieces.items piece) in (
      counted,
      c.overwrite_if.ensures.items ∙ ap (λ (l : List ℕ). if c.args.done then overwritten c.args.at piece l else l) inv.1 ∙ sym (ap bytes_after more),
      omega (arith, inv.2, room, c.requires.room, c.extend.ensures.len, c.extend.ensures.capacity),
      omega (arith, inv.3, room, c.requires.room, c.overwrite_if.ensures.grown, c.overwrite_if.ensures.capacity),
      omega (arith, inv.4, left, c.requires.calls, c.keep.ensures.len, c.keep.ensures.capacity),
    )
