use Rattle.df_live.proofs.Names.{◌≡◌, IfErr, List, OnOk, ℕ, codes, subst, IfErr-weaker, err_from_is_err_and, on_ok_weaker, IsBadHead, IsTakenAs, RefusesHead}
use Rattle.df_live.proofs.Taking.{stops_head, stops_untaken, taken_as}
use Rattle.df_live.proofs.head.take_first.Goals as goal

pub returns-in_err-taken-clause-stops : goal.returns-in_err-taken-clause-stops
returns-in_err-taken-clause-stops g c =
    let p = err_from_is_err_and c.from_residual.result c.from_residual.ensures.1 in
    rw (p.1, p.2) (stops_untaken (IsBadHead (λ l. l ≡ codes "defcon-script 1")) 1 _ _ _ _ _ c.in_err-taken.field-0.0 c.in_err-taken.ensures.one
    c.in_err-taken.ensures.takes c.in_err-taken.ensures.stops)

pub returns-clause-first : goal.returns-clause-first
returns-clause-first g c =
    on_ok_weaker c.first_in.result (λ is. taken_as _ _ c.in_ok-taken.taken _ _ c.in_ok-taken.ensures.takes is)
    (subst (λ (l : List ℕ). OnOk c.first_in.result (IsTakenAs c.in_ok-taken.taken l (codes "defcon-script 1"))) c.deref.ensures.value c.first_in.ensures.first)

pub returns-clause-stops : goal.returns-clause-stops
returns-clause-stops g c =
    IfErr-weaker c.first_in.result _ _
    (λ s r. stops_head (λ l. l ≡ codes "defcon-script 1") 1 _ _ _ _ c.in_ok-taken.taken _ s c.in_ok-taken.ensures.one c.in_ok-taken.ensures.takes r)
    (subst (λ (l : List ℕ). IfErr c.first_in.result (RefusesHead (λ m. m ≡ codes "defcon-script 1") 1 c.in_ok-taken.taken l)) c.deref.ensures.value
    c.first_in.ensures.refused)
