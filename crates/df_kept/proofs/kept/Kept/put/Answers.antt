use Rattle.std.proofs.Common.{sym, subst}
use Rattle.df_kept.specs.Kept.{IsPlace, KeptState}
use Rattle.df_kept.proofs.kept.Kept.put.Goals as goal

pub returns-in-Some-clause-place : goal.returns-in-Some-clause-place
returns-in-Some-clause-place g c =
    let name = c.args.name.now in
    let seat = sym c.in-Some.ensures in
    let place : IsPlace name c.in-Some.place (c.self.inside.roll.seats, c.self.inside.values.items) =
    record { seat = seat; within = c.self.invariant.within name c.in-Some.place seat } in
    c.renew.ensures.places name c.in-Some.place (subst (λ (k : KeptState _). IsPlace name c.in-Some.place k) c.self.view_is place)
