use Rattle.df_durable.proofs.Names.{◌<◌, ◌^◌, ℕ, List, Option, length, subst, sym, IfSome, IsSettled, IfRead, IsOf}
use Rattle.df_disk.proofs.Moments.{recedes, recedes_on}
use Rattle.df_durable.proofs.opening.open_on.Goals as goal

pub found_on-requires : goal.found_on-requires
found_on-requires g c = subst (λ (o : Option (List ℕ)). IsSettled o (g.D.Disk.may_leave c.settle.new.disk)) (sym c.settle.ensures.same)
    c.in-Ok.ensures.settled

pub returns-in-Ok-clause-found : goal.returns-in-Ok-clause-found
returns-in-Ok-clause-found g c = subst (λ (o : Option (List ℕ)). IfSome o (λ image. IsOf image c.found_on.result)) c.settle.ensures.same
    c.found_on.ensures.found

pub returns-in-Ok-clause-short : goal.returns-in-Ok-clause-short
returns-in-Ok-clause-short g c = subst (λ (o : Option (List ℕ)). IfRead c.found_on.result (IfSome o (λ image. length image < 2 ^ 64)))
    c.settle.ensures.same c.found_on.ensures.short

pub returns-in-Ok-clause-time : goal.returns-in-Ok-clause-time
returns-in-Ok-clause-time g c =
    let t = g.D.Disk.moment in
    let s = g.D.Disk.left_since in
    let old = c.args.disk.now in
    let mid = c.settle.new.disk in
    recedes_on t s old mid c.found_on.new.disk
    (recedes t s old mid (g.D.Disk.may_leave old) (g.D.Disk.may_leave mid) c.settle.ensures.time c.settle.ensures.crash (g.met.D.Disk.counts_now old))
    c.found_on.ensures.time

pub returns-in-Err-clause-time : goal.returns-in-Err-clause-time
returns-in-Err-clause-time g c =
    let old = c.args.disk.now in
    let mid = c.settle.new.disk in
    recedes g.D.Disk.moment g.D.Disk.left_since old mid (g.D.Disk.may_leave old) (g.D.Disk.may_leave mid) c.settle.ensures.time c.settle.ensures.crash
    (g.met.D.Disk.counts_now old)
