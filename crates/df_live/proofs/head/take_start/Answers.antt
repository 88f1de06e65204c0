use Rattle.df_live.proofs.Names.{[], ◌++◌, ◌∷◌, ◌≡◌, List, arith, length, subst, sym, ◌∙◌, err_from_is_err_and, RootStart, TakesStart}
use Rattle.df_live.proofs.Heads.{stops_first, stops_kept, stops_root, takes_more, takes_start}
use Rattle.df_live.proofs.Taking.{if_pushed}
use Rattle.df_live.proofs.head.take_start.Goals as goal

pub returns-in_err-take_first-clause-stops : goal.returns-in_err-take_first-clause-stops
returns-in_err-take_first-clause-stops g c =
    let p = err_from_is_err_and c.from_residual.result c.from_residual.ensures.1 in
    rw (p.1, p.2) (stops_first _ _ _ _ c.in_err-take_first.field-0.0 c.in_err-take_first.ensures.stops)

pub returns-in_err-root-clause-stops : goal.returns-in_err-root-clause-stops
returns-in_err-root-clause-stops g c =
    let p = err_from_is_err_and c.from_residual-in_err-root.result c.from_residual-in_err-root.ensures.1 in
    let count : c.len.result ≡ length c.roots.roots.items = omega (arith, c.len.ensures, c.roots.roots.ok.0) in
    let taken = c.roots.invariant in
    rw (p.1, p.2) (stops_root _ _ _ c.roots.roots.items c.len.result _ _ _ c.in_err-root.field-0.0 taken.0 taken.1 count taken.2 c.in_err-root.ensures.stops)

pub returns-then-is_err-clause-stops : goal.returns-then-is_err-clause-stops
returns-then-is_err-clause-stops g c =
    let taken = c.roots.invariant in
    stops_kept _ _ _ c.roots.roots.items c.in-Some.root c.len.result _ _ taken.0 taken.1 (rw c.in-Some.is at c.in_ok-root.ensures.read)

pub roots-preserved : goal.roots-preserved
roots-preserved g c =
    let count : c.len.result ≡ length c.roots.roots.items = omega (arith, c.len.ensures, c.roots.roots.ok.0) in
    let taken = c.roots.invariant in
    let pushed = if_pushed c.push.result c.push.new.self.items (c.roots.roots.items ++ c.in-Some.root ∷ []) c.roots.roots.items
    (sym c.is_err.ensures.value ∙ c.if-is_err.false) c.push.ensures.items in
    let more = takes_more _ _ _ c.roots.roots.items c.push.new.self.items c.in-Some.root c.len.result taken.0 taken.1 count
    (rw c.in-Some.is at c.in_ok-root.ensures.read) pushed in
    (more.0, more.1, omega (arith, taken.2, c.take_root.ensures.never_falls))

pub returns-clause-read : goal.returns-clause-read
returns-clause-read g c =
    let taken = c.roots.invariant in
    subst (λ (rs : List RootStart). TakesStart (g.I.Lines.to_come c.args.input.now) (g.I.Lines.to_come c.take_root.new.input) rs) (sym c.new.ensures)
    (takes_start _ _ _ c.roots.roots.items c.len.result taken.0 taken.1 (rw c.in_default.is at c.in_ok-root.ensures.read))
