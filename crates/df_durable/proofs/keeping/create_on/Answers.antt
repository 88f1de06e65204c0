use Rattle.df_durable.proofs.Names.{◌≡◌, ℕ, List, [], ◌∷◌, length, ◌∙◌, ap, arith, subst, IfSome, IsAtRest, start_record, KeptCore}
use Rattle.df_durable.proofs.Keepings.{first_on_disk, first_tells, start_leaves}
use Rattle.df_durable.proofs.keeping.create_on.Goals as goal

pub returns-in-Ok-clause-on_disk : goal.returns-in-Ok-clause-on_disk
returns-in-Ok-clause-on_disk g c =
    let b = g.D.Disk.bytes in
    let m = g.D.Disk.may_leave in
    let old = c.args.disk.now in
    let new = c.put_first.new.disk in
    let on : KeptCore = record { core = c.in_ok-core.field-0.core; gate = c.len-gate.result } in
    let size : length c.deref.result.now ≡ c.len-gate.result = omega (arith, ap (λ (l : List ℕ). length l) c.deref.ensures.value) in
    let rests = subst (λ (n : ℕ). IfSome (b old) (λ _. IsAtRest b m new (start_record c.args.start ∷ []) n)) size
    (c.in-Ok.ensures.kept (start_record c.args.start) (c.deref.ensures.value ∙ c.in_ok-core.ensures.framed)) in
    first_on_disk b m old new c.args.start on rests c.in_ok-core.ensures.core c.in_ok-core.ensures.roots c.put_first.ensures.untold

pub returns-in-Ok-clause-tells : goal.returns-in-Ok-clause-tells
returns-in-Ok-clause-tells g c =
    let b = g.D.Disk.bytes in
    let m = g.D.Disk.may_leave in
    let old = c.args.disk.now in
    let new = c.put_first.new.disk in
    let on : KeptCore = record { core = c.in_ok-core.field-0.core; gate = c.len-gate.result } in
    let size : length c.deref.result.now ≡ c.len-gate.result = omega (arith, ap (λ (l : List ℕ). length l) c.deref.ensures.value) in
    let rests = subst (λ (n : ℕ). IfSome (b old) (λ _. IsAtRest b m new (start_record c.args.start ∷ []) n)) size
    (c.in-Ok.ensures.kept (start_record c.args.start) (c.deref.ensures.value ∙ c.in_ok-core.ensures.framed)) in
    first_tells b m old new c.args.start on rests

pub returns-in-Ok-clause-any_moment : goal.returns-in-Ok-clause-any_moment
returns-in-Ok-clause-any_moment g c = start_leaves g.D.Disk.moment g.D.Disk.left_since c.args.disk.now c.put_first.new.disk c.args.start
    c.in_ok-core.ensures.roots (g.D.Disk.bytes c.args.disk.now)
    (c.put_first.ensures.any_moment (start_record c.args.start) (c.deref.ensures.value ∙ c.in_ok-core.ensures.framed))

pub returns-clause-any_moment : goal.returns-clause-any_moment
returns-clause-any_moment g c = start_leaves g.D.Disk.moment g.D.Disk.left_since c.args.disk.now c.put_first.new.disk c.args.start
    c.in_ok-core.ensures.roots (g.D.Disk.bytes c.args.disk.now)
    (c.put_first.ensures.any_moment (start_record c.args.start) (c.deref.ensures.value ∙ c.in_ok-core.ensures.framed))
