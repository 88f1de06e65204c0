use Rattle.std.proofs.Common.{ℕ, List, Option, Ok, Err, ap, sym, subst}
use Rattle.std.specs.Prelude.{IfSome}
use Rattle.df_disk.specs.Disk.{LeavesOnly}
use Rattle.df_durable.specs.Keeping.{IsEmptyOrStarted}
use Rattle.df_durable.specs.Opening.{IsOf}
use Rattle.df_durable.specs.declared.keeping.KeptCore.{KeptCore}
use Rattle.df_keep.specs.Storing.{IsJudged, StopsOpening}
use Rattle.df_keep.specs.declared.status.KeepStatus.{KeepStatus}
use Rattle.df_keep.proofs.Begun.{begins_kept, created_leaves, judged_kept, judged_unopened, opened_leaves, stops_unopened}
use Rattle.df_keep.proofs.store.begin.Goals as goal

pub returns-in-Err-clause-any_moment : goal.returns-in-Err-clause-any_moment
returns-in-Err-clause-any_moment g c = opened_leaves g.D.Disk.bytes g.D.Disk.may_leave g.D.Disk.moment g.D.Disk.left_since g.met.D.Disk.only_now c.args.start
    c.args.disk.now c.open_on.new.disk c.open_on.ensures.time (g.D.Disk.bytes c.args.disk.now)

pub returns-in-Err-clause-judged : goal.returns-in-Err-clause-judged
returns-in-Err-clause-judged g c = subst (λ (s : KeepStatus). IfSome (g.D.Disk.bytes c.args.disk.now)
    (λ image. IsJudged {T = KeptCore} c.args.start image (Err s))) (sym c.not_opened.ensures)
    (judged_unopened c.args.start (g.D.Disk.bytes c.args.disk.now) c.in-Err.cause c.in-Err.ensures.found c.in-Err.ensures.short)

pub returns-in-Err-clause-stops : goal.returns-in-Err-clause-stops
returns-in-Err-clause-stops g c = subst (StopsOpening (g.D.Disk.faults c.args.disk.now) (g.D.Disk.faults c.open_on.new.disk)) (sym c.not_opened.ensures)
    (stops_unopened (g.D.Disk.faults c.args.disk.now) (g.D.Disk.faults c.open_on.new.disk) c.in-Err.cause (λ e. c.in-Err.ensures.fault (ap Err e)))

pub returns-in-Some-clause-any_moment : goal.returns-in-Some-clause-any_moment
returns-in-Some-clause-any_moment g c = opened_leaves g.D.Disk.bytes g.D.Disk.may_leave g.D.Disk.moment g.D.Disk.left_since g.met.D.Disk.only_now
    c.args.start c.args.disk.now c.open_on.new.disk c.open_on.ensures.time (g.D.Disk.bytes c.args.disk.now)

pub returns-in-Some-clause-judged : goal.returns-in-Some-clause-judged
returns-in-Some-clause-judged g c =
    let told = g.D.Disk.bytes c.args.disk.now in
    let found = subst (λ (f : Option KeptCore). IfSome told (λ image. IsOf image (Ok f))) c.in-Some.is c.in-Ok.ensures.found in
    judged_kept c.args.start c.in-Some.kept c.with_start.result c.with_start.ensures.same c.with_start.ensures.other told found c.in-Ok.ensures.short

pub returns-in-Some-clause-begins : goal.returns-in-Some-clause-begins
returns-in-Some-clause-begins g c =
    let told = g.D.Disk.bytes c.args.disk.now in
    let found = subst (λ (f : Option KeptCore). IfSome told (λ image. IsOf image (Ok f))) c.in-Some.is c.in-Ok.ensures.found in
    begins_kept c.args.start c.in-Some.kept c.with_start.result c.with_start.ensures.same c.with_start.ensures.other told found

pub returns-in-Ok-create_on-clause-any_moment : goal.returns-in-Ok-create_on-clause-any_moment
returns-in-Ok-create_on-clause-any_moment g c =
    let told = g.D.Disk.bytes c.args.disk.now in
    let old = c.args.disk.now in
    let mid = c.open_on.new.disk in
    let new = c.create_on.new.disk in
    let empty = subst (λ (f : Option KeptCore). IfSome told (λ image. IsOf image (Ok f))) c.in-None.is c.in-Ok.ensures.found in
    let leaves = subst (λ (o : Option (List ℕ)). IfSome o (λ _. LeavesOnly g.D.Disk.moment g.D.Disk.left_since mid new (IsEmptyOrStarted c.args.start)))
    c.open_on.ensures.same c.create_on.ensures.any_moment in
    created_leaves g.D.Disk.bytes g.D.Disk.may_leave g.D.Disk.moment g.D.Disk.left_since g.met.D.Disk.only_now c.args.start old mid c.open_on.ensures.time
    new told empty leaves

pub returns-in-Err-create_on-clause-any_moment : goal.returns-in-Err-create_on-clause-any_moment
returns-in-Err-create_on-clause-any_moment g c =
    let told = g.D.Disk.bytes c.args.disk.now in
    let old = c.args.disk.now in
    let mid = c.open_on.new.disk in
    let new = c.create_on.new.disk in
    let empty = subst (λ (f : Option KeptCore). IfSome told (λ image. IsOf image (Ok f))) c.in-None.is c.in-Ok.ensures.found in
    let leaves = subst (λ (o : Option (List ℕ)). IfSome o (λ _. LeavesOnly g.D.Disk.moment g.D.Disk.left_since mid new (IsEmptyOrStarted c.args.start)))
    c.open_on.ensures.same c.create_on.ensures.any_moment in
    created_leaves g.D.Disk.bytes g.D.Disk.may_leave g.D.Disk.moment g.D.Disk.left_since g.met.D.Disk.only_now c.args.start old mid c.open_on.ensures.time
    new told empty leaves
