use Rattle.df_roll.proofs.Names.{◌≤◌, List, length, ap, sym, subst, ◌∙◌, is_some, insert, IsAscending, unit_cmp, names_in, seat_of, Seat}
use Rattle.df_roll.proofs.Spots.{IsSpot, between_all, chunk_ordered, seat_of-joined}
use Rattle.df_roll.proofs.chunks.gap_at.Goals as goal

pub seat_at-requires : goal.seat_at-requires
seat_at-requires c =
    let cs = c.args.chunks.now in
    let k = c.chunk_at-chunk.result in
    let d = c.index-chunks-chunk.result in
    let spot : IsSpot c.args.name.now cs k = record { lower = c.chunk_at-chunk.ensures.lower; higher = c.chunk_at-chunk.ensures.higher } in
    subst (λ (l : List Seat). IsAscending unit_cmp (names_in l)) (sym (c.as_slice.ensures ∙ c.index-chunks-chunk.is))
    (chunk_ordered c.args.name.now cs k d c.requires.ordered c.chunk_at-chunk.ensures.within spot)

pub returns-in-Ok-clause-present : goal.returns-in-Ok-clause-present
returns-in-Ok-clause-present c =
    let cs = c.args.chunks.now in
    let a = c.args.name.now in
    let k = c.chunk_at-chunk.result in
    let d = c.index-chunks-chunk.result in
    let s : Seat = record { unit = a; place = 0 } in
    let spot : IsSpot a cs k = record { lower = c.chunk_at-chunk.ensures.lower; higher = c.chunk_at-chunk.ensures.higher } in
    ap is_some (seat_of-joined a cs k d c.requires.ordered c.chunk_at-chunk.ensures.within spot
    ∙ ap (seat_of a) (sym (c.as_slice.ensures ∙ c.index-chunks-chunk.is)) ∙ c.in-Ok.ensures.found s)

pub returns-in-Err-clause-absent : goal.returns-in-Err-clause-absent
returns-in-Err-clause-absent c =
    let cs = c.args.chunks.now in
    let a = c.args.name.now in
    let k = c.chunk_at-chunk.result in
    let d = c.index-chunks-chunk.result in
    let spot : IsSpot a cs k = record { lower = c.chunk_at-chunk.ensures.lower; higher = c.chunk_at-chunk.ensures.higher } in
    seat_of-joined a cs k d c.requires.ordered c.chunk_at-chunk.ensures.within spot
    ∙ ap (seat_of a) (sym (c.as_slice.ensures ∙ c.index-chunks-chunk.is)) ∙ c.in-Err.ensures.absent

pub returns-in-Err-clause-between : goal.returns-in-Err-clause-between
returns-in-Err-clause-between c =
    let cs = c.args.chunks.now in
    let a = c.args.name.now in
    let k = c.chunk_at-chunk.result in
    let d = c.index-chunks-chunk.result in
    let is = c.as_slice.ensures ∙ c.index-chunks-chunk.is in
    let spot : IsSpot a cs k = record { lower = c.chunk_at-chunk.ensures.lower; higher = c.chunk_at-chunk.ensures.higher } in
    between_all a cs k d c.requires.ordered c.chunk_at-chunk.ensures.within spot c.in-Err.at
    (subst (λ (l : List Seat). c.in-Err.at ≤ length l) is c.in-Err.ensures.bound)
    (subst (λ (l : List Seat). IsAscending unit_cmp (insert (names_in l) c.in-Err.at a)) is c.in-Err.ensures.between)
