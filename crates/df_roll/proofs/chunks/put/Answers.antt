use Rattle.df_roll.proofs.Names.{List, ap, ◌∙◌, insert, Seat}
use Rattle.df_roll.proofs.Joining.{put_in_room}
use Rattle.df_roll.proofs.chunks.put.Goals as goal

pub returns-else-is_full-clause-put : goal.returns-else-is_full-clause-put
returns-else-is_full-clause-put c =
    let d = c.index_mut.result.now in
    put_in_room c.args.chunks.now.items c.args.spot.chunk c.args.spot.at c.args.seat d c.requires.chunk (c.requires.at d) c.put.new.self
    (c.put.ensures ∙ ap (λ (l : List Seat). insert l c.args.spot.at c.args.seat) c.index_mut.ensures.value)
