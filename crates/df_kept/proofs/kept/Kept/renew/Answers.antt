use Rattle.std.proofs.Common.{◌≡◌, sym, ap, subst, ◌∙◌, Some, cond}
use Rattle.df_roll.specs.Roll.{seat_of}
use Rattle.df_unit.specs.Name.{same}
use Rattle.df_kept.specs.Kept.{KeptState, kept_at}
use Rattle.df_kept.proofs.Keeping.{kept_set}
use Rattle.df_kept.proofs.kept.Kept.renew.Goals as goal

pub returns-clause-set : goal.returns-clause-set
returns-clause-set g c = λ name n at.
    let place = subst (λ (k : KeptState _). seat_of name k.0 ≡ Some c.args.place) (sym c.self.view_is) at in
    kept_set c.self.inside.roll.seats c.self.inside.values.items c.self.invariant name c.args.value c.args.place place n
    ∙ ap (λ (k : KeptState _). cond (same name n) (Some c.args.value) (kept_at n k)) c.self.view_is
