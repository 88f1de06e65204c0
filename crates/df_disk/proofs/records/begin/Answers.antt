use Rattle.df_disk.proofs.Begins.{after_gate, after_size, after_sync, if_told}
use Rattle.df_disk.proofs.records.begin.Goals as goal

pub returns-clause-any_moment : goal.returns-clause-any_moment
returns-clause-any_moment g c = if_told (g.D.Disk.bytes c.args.disk.now) (λ image tells.
    let b = g.D.Disk.bytes in
    let m = g.D.Disk.may_leave in
    let t = g.D.Disk.moment in
    let s = g.D.Disk.left_since in
    let now = g.met.D.Disk.only_now in
    let old = c.args.disk.now in
    let one = c.size.new.self in
    let two = c.write_at.new.self in
    let three = c.sync.new.self in
    let n = c.in_ok-size.field-0 in
    let first = after_size b m t s now old image tells c.requires.empty c.requires.settled one c.size.ensures.time c.size.ensures.crash in
    let second = after_gate b m t s now old image tells c.requires.empty c.requires.settled one n c.in_ok-size.ensures.size c.if-branch-gt1.false
    c.size.ensures.same c.size.ensures.crash two first c.write_at.ensures.crash c.write_at.ensures.time in
    after_sync b m t s now old image tells c.requires.empty c.requires.settled one n c.in_ok-size.ensures.size c.if-branch-gt1.false c.size.ensures.same
    c.size.ensures.crash two three second c.write_at.ensures.crash c.sync.ensures.time c.sync.ensures.crash)
