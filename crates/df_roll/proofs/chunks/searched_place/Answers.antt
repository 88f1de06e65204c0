use Rattle.df_roll.proofs.Names.{List, ap, sym, subst, ◌∙◌, IsAscending, unit_cmp, names_in, seat_of, Seat}
use Rattle.df_roll.proofs.Spots.{IsSpot, chunk_ordered, seat_of-joined}
use Rattle.df_roll.proofs.chunks.searched_place.Goals as goal

pub seat_at-requires : goal.seat_at-requires
seat_at-requires c =
    let cs = c.args.chunks.now in
    let k = c.chunk_at.result in
    let d = c.index-chunks-chunk_at.result in
    let spot : IsSpot c.args.name.now cs k = record { lower = c.chunk_at.ensures.lower; higher = c.chunk_at.ensures.higher } in
    subst (λ (l : List Seat). IsAscending unit_cmp (names_in l)) (sym (c.as_slice-seats.ensures ∙ c.index-chunks-chunk_at.is))
    (chunk_ordered c.args.name.now cs k d c.requires c.chunk_at.ensures.within spot)

pub returns-in-Ok : goal.returns-in-Ok
returns-in-Ok c =
    let cs = c.args.chunks.now in
    let a = c.args.name.now in
    let k = c.chunk_at.result in
    let d = c.index-chunks-chunk_at.result in
    let spot : IsSpot a cs k = record { lower = c.chunk_at.ensures.lower; higher = c.chunk_at.ensures.higher } in
    sym (seat_of-joined a cs k d c.requires c.chunk_at.ensures.within spot
    ∙ ap (seat_of a) (sym (c.as_slice-seats.ensures ∙ c.index-chunks-chunk_at.is)) ∙ c.in-Ok.ensures.found c.index-seats-k.result)

pub returns-in-Err : goal.returns-in-Err
returns-in-Err c =
    let cs = c.args.chunks.now in
    let a = c.args.name.now in
    let k = c.chunk_at.result in
    let d = c.index-chunks-chunk_at.result in
    let spot : IsSpot a cs k = record { lower = c.chunk_at.ensures.lower; higher = c.chunk_at.ensures.higher } in
    sym (seat_of-joined a cs k d c.requires c.chunk_at.ensures.within spot
    ∙ ap (seat_of a) (sym (c.as_slice-seats.ensures ∙ c.index-chunks-chunk_at.is)) ∙ c.in-Err.ensures.absent)
