use Rattle.df_local.proofs.Names.{subst, accounted_as, kept_in_out, IsKept, changed, Call, Effect, LocalState}
use Rattle.df_local.proofs.local.Local.put_in_out.Goals as goal

pub invariant_of-self : goal.invariant_of-self
invariant_of-self c =
    let l = c.args.self.now in
    let kept = subst (λ (l : LocalState). IsKept l.own) c.self.view_is c.self.invariant in
    let ins = c.in-Ok.ensures in
    let out = c.in-Ok-out_changed.ensures in
    accounted_as (changed l.unit l.own (Call.ChangeInOut c.args.half c.args.act c.args.tag.now) Effect.Nothing) _ _ _ _ _ (kept_in_out l.unit l.own c.args.half c.args.act c.args.tag.now Effect.Nothing kept)
    ins.input out.output ins.contamination out.dropped out.endorsed
