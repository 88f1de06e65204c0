use Rattle.df_durable.proofs.Names.{◌≡◌, ◌<◌, ◌^◌, ℕ, List, length, Err, refl, sym, subst, IfSome, IfRead, IsOf, OpenCause}
use Rattle.df_durable.proofs.Openings.{found_told, nothing_read, nothing_told, opened_on_disk, read_so, settled_still, short_told}
use Rattle.df_durable.proofs.opening.found_on.Goals as goal

pub returns-in-Ok-clause-found : goal.returns-in-Ok-clause-found
returns-in-Ok-clause-found g c =
    let d = c.args.disk.now in
    let taken = subst (λ (l : List ℕ). IfSome (g.D.Disk.bytes d) (λ bs. l ≡ bs)) (sym c.deref.ensures.value) c.in-Ok.ensures.taken in
    found_told g.D.Disk.bytes g.D.Disk.may_leave d d c.take_image.new.disk refl c.requires c.take_image.ensures.same c.take_image.ensures.crash
    c.deref.result.now taken c.kept_of.result c.kept_of.ensures.kept

pub returns-in-Ok-clause-short : goal.returns-in-Ok-clause-short
returns-in-Ok-clause-short g c =
    let d = c.args.disk.now in
    let taken = subst (λ (l : List ℕ). IfSome (g.D.Disk.bytes d) (λ bs. l ≡ bs)) (sym c.deref.ensures.value) c.in-Ok.ensures.taken in
    read_so (IfSome (g.D.Disk.bytes d) (λ image. length image < 2 ^ 64)) c.kept_of.result
    (short_told g.D.Disk.bytes g.D.Disk.may_leave d d c.take_image.new.disk refl c.requires c.take_image.ensures.same c.take_image.ensures.crash
    c.deref.result.now taken c.kept_of.result c.kept_of.ensures.kept c.kept_of.ensures.short)

pub returns-in-Ok-clause-on_disk : goal.returns-in-Ok-clause-on_disk
returns-in-Ok-clause-on_disk g c =
    let d = c.args.disk.now in
    let taken = subst (λ (l : List ℕ). IfSome (g.D.Disk.bytes d) (λ bs. l ≡ bs)) (sym c.deref.ensures.value) c.in-Ok.ensures.taken in
    opened_on_disk g.D.Disk.bytes g.D.Disk.may_leave d d c.take_image.new.disk refl c.requires c.take_image.ensures.same c.take_image.ensures.crash
    c.deref.result.now taken c.kept_of.result c.kept_of.ensures.kept

pub returns-in-Ok-clause-settled : goal.returns-in-Ok-clause-settled
returns-in-Ok-clause-settled g c =
    let d = c.args.disk.now in
    settled_still g.D.Disk.bytes g.D.Disk.may_leave d d c.take_image.new.disk refl c.requires c.take_image.ensures.same c.take_image.ensures.crash

pub returns-in-Err-clause-found : goal.returns-in-Err-clause-found
returns-in-Err-clause-found g c = subst (λ (e : OpenCause). IfSome (g.D.Disk.bytes c.args.disk.now) (λ image. IsOf image (Err e)))
    (sym c.not_taken.ensures) (nothing_told (g.D.Disk.bytes c.args.disk.now) c.in-Err.why)

pub returns-in-Err-clause-short : goal.returns-in-Err-clause-short
returns-in-Err-clause-short g c =
    let P : Type 0 = IfSome (g.D.Disk.bytes c.args.disk.now) (λ image. length image < 2 ^ 64) in
    subst (λ (e : OpenCause). IfRead (Err e) P) (sym c.not_taken.ensures) (nothing_read P c.in-Err.why)

pub returns-in-Err-clause-settled : goal.returns-in-Err-clause-settled
returns-in-Err-clause-settled g c =
    let d = c.args.disk.now in
    settled_still g.D.Disk.bytes g.D.Disk.may_leave d d c.take_image.new.disk refl c.requires c.take_image.ensures.same c.take_image.ensures.crash
