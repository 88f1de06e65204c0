use Rattle.df_durable.proofs.Names.{ℕ, [], ◌∷◌, length, subst, zero-add, OnOk, IsAtRest}
use Rattle.df_durable.proofs.Keepings.{if_told_ok}
use Rattle.df_durable.proofs.keeping.put_first.Goals as goal

pub returns-clause-kept : goal.returns-clause-kept
returns-clause-kept g c = λ bytes is.
    let b = g.D.Disk.bytes in
    let m = g.D.Disk.may_leave in
    let new = c.append.new.disk in
    let framed = c.args.framed.now in
    if_told_ok (IsAtRest b m new (bytes ∷ []) (length framed)) (IsAtRest b m c.begin.new.disk [] 0) (b c.args.disk.now) c.append.result
    c.in_ok-begin.ensures.begun (λ rests. subst (λ (n : ℕ). OnOk c.append.result (IsAtRest b m new (bytes ∷ []) n)) (zero-add (length framed))
    (c.append.ensures.kept [] bytes is rests))
