use Rattle.df_live.proofs.Names.{IfErr, IfOk, List, ℕ, ◌+◌, subst, IfErr-weaker, IfOk-weaker, err_from_is_err_and, IsHeadLine, IsBadHead, ReadsRoot, RefusesHead}
use Rattle.df_live.proofs.Taking.{stops_head, stops_untaken, takes_root}
use Rattle.df_live.proofs.head.take_root.Goals as goal

pub returns-in_err-taken-clause-stops : goal.returns-in_err-taken-clause-stops
returns-in_err-taken-clause-stops g c =
    let p = err_from_is_err_and c.from_residual.result c.from_residual.ensures.1 in
    rw (p.1, p.2) (stops_untaken (IsBadHead (IsHeadLine c.args.number)) _ _ _ _ _ _ c.in_err-taken.field-0.0 c.in_err-taken.ensures.one
    c.in_err-taken.ensures.takes c.in_err-taken.ensures.stops)

pub returns-clause-read : goal.returns-clause-read
returns-clause-read g c =
    IfOk-weaker c.root_in.result _ _ (λ o r. takes_root c.args.number _ _ c.in_ok-taken.taken _ o c.in_ok-taken.ensures.one c.in_ok-taken.ensures.takes r)
    (subst (λ (l : List ℕ). IfOk c.root_in.result (ReadsRoot c.args.number c.in_ok-taken.taken l)) c.deref.ensures.value c.root_in.ensures.read)

pub returns-clause-stops : goal.returns-clause-stops
returns-clause-stops g c =
    IfErr-weaker c.root_in.result _ _
    (λ s r. stops_head (IsHeadLine c.args.number) _ _ _ _ _ c.in_ok-taken.taken _ s c.in_ok-taken.ensures.one c.in_ok-taken.ensures.takes r)
    (subst (λ (l : List ℕ). IfErr c.root_in.result (RefusesHead (IsHeadLine c.args.number) (c.args.number + 2) c.in_ok-taken.taken l)) c.deref.ensures.value
    c.root_in.ensures.refused)
