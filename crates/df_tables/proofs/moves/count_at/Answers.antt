use Rattle.df_tables.proofs.Names.{◌≡◌, ◌∙◌, ap, set, get_or, counted, with_own, LocalState, rows, Subscribe, Effect, Reply, Sub, moved_row, Unit}
use Rattle.df_tables.proofs.Each.{set_modify}
use Rattle.df_tables.proofs.moves.count_at.Goals as goal

pub returns : goal.returns
returns c =
    let us = c.args.units.now in
    let d = c.index-units-place.result in
    let u = get_or us c.args.place d in
    let said : c.count_sub-reply.result ≡ Sub c.args.number = c.count_sub-reply.ensures.replied ∙ ap (λ (p : Reply × Effect). p.0) (c.requires.right d c.requires.within) in
    let own : c.count_sub-reply.new.self ≡ with_own u.local (counted u.local.own (Sub c.args.number)) = c.count_sub-reply.ensures.moved ∙ ap (λ (r : Reply). with_own u.local (counted u.local.own r)) said in
    ap (λ (l : LocalState). let x : Unit = record { local = l; line = u.line } in set us c.args.place x) own
    ∙ set_modify c.args.place (moved_row rows (Subscribe c.args.filter.now) (Sub c.args.number) Effect.Nothing) d us
