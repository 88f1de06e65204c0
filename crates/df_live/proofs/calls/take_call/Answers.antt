use Rattle.df_live.proofs.Names.{IfErr, IfOk, List, ℕ, subst, IfErr-weaker, IfOk-weaker, err_from_is_err_and, IsBadCall, ReadsCall, RefusesCall}
use Rattle.df_live.proofs.Taking.{stops_call, stops_untaken, takes_call}
use Rattle.df_live.proofs.calls.take_call.Goals as goal

pub returns-in_err-taken-clause-stops : goal.returns-in_err-taken-clause-stops
returns-in_err-taken-clause-stops g c =
    let p = err_from_is_err_and c.from_residual.result c.from_residual.ensures.1 in
    rw (p.1, p.2) (stops_untaken IsBadCall _ _ _ _ _ _ c.in_err-taken.field-0.0 c.in_err-taken.ensures.one c.in_err-taken.ensures.takes
    c.in_err-taken.ensures.stops)

pub returns-clause-read : goal.returns-clause-read
returns-clause-read g c =
    IfOk-weaker c.call_in.result _ _ (λ o r. takes_call _ _ c.in_ok-taken.taken _ o c.in_ok-taken.ensures.takes r)
    (subst (λ (l : List ℕ). IfOk c.call_in.result (ReadsCall c.in_ok-taken.taken l)) c.deref.ensures.value c.call_in.ensures.read)

pub returns-clause-stops : goal.returns-clause-stops
returns-clause-stops g c =
    IfErr-weaker c.call_in.result _ _
    (λ s r. stops_call c.args.number _ _ _ _ c.in_ok-taken.taken _ s c.in_ok-taken.ensures.one c.in_ok-taken.ensures.takes r)
    (subst (λ (l : List ℕ). IfErr c.call_in.result (RefusesCall c.args.number c.in_ok-taken.taken l)) c.deref.ensures.value c.call_in.ensures.refused)
