use Rattle.df_local.proofs.Names.{ap, subst, accounted_as, kept_out, IsKept, out_changed, LocalState}
use Rattle.df_local.proofs.local.Local.put_out.Goals as goal

pub invariant_of-self : goal.invariant_of-self
invariant_of-self c =
    let st = c.args.self.now.own in
    let kept = subst (λ (l : LocalState). IsKept l.own) c.self.view_is c.self.invariant in
    let out = c.in-Ok.ensures in
    accounted_as (out_changed c.args.half c.args.act c.args.tag.now st) _ _ _ _ _ (kept_out st c.args.half c.args.act c.args.tag.now kept)
    (ap (λ (l : LocalState). l.own.input) c.self.view_is) out.output (ap (λ (l : LocalState). l.own.contamination) c.self.view_is) out.dropped out.endorsed
