use Rattle.df_roll.proofs.Names.{List, ap, sym, subst, ◌∙◌, arith, insert, IsPut, Seat}
use Rattle.df_roll.proofs.Joining.{put_in_two}
use Rattle.df_roll.proofs.chunks.put_in_full.Goals as goal

pub returns-clause-put : goal.returns-clause-put
returns-clause-put c =
    let cs = c.args.chunks.now.items in
    let d = c.index_mut.result.now in
    let full = c.requires.full d in
    subst (IsPut c.args.spot.chunk c.args.spot.at c.args.seat cs) (sym c.in-Ok.ensures.items)
    (put_in_two cs c.args.spot.chunk c.args.spot.at c.args.seat d c.requires.chunk (omega (arith, full)) c.put_halved.new.self c.put_halved.new.upper
    (c.put_halved.ensures.seats ∙ ap (λ (l : List Seat). insert l c.args.spot.at c.args.seat) c.index_mut.ensures.value)
    c.put_halved.ensures.lower c.put_halved.ensures.upper)
