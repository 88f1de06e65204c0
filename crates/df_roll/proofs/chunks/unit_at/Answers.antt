use Rattle.df_roll.proofs.Names.{List, ◌++◌, ◌+◌, drop, ap, sym, ◌∙◌, arith, slice_get, joined, names_in, Seat}
use Rattle.df_roll.proofs.Joining.{unit_behind, unit_next, unit_within}
use Rattle.df_roll.proofs.chunks.unit_at.Goals as goal

pub returns-then-rest-seats : goal.returns-then-rest-seats
returns-then-rest-seats c =
    let cs = c.args.chunks.now in
    let behind = joined (drop (c.loop-chunk.chunk-index + 1) cs) in
    sym (unit_within c.as_slice-seats.result.now behind c.loop-chunk.rest c.index-seats-rest.result (omega arith))
    ∙ ap (λ (l : List Seat). slice_get (names_in (l ++ behind)) c.loop-chunk.rest) c.as_slice-seats.ensures
    ∙ sym (unit_next cs c.loop-chunk.chunk-index c.loop-chunk.rest c.chunk-item.result (omega arith) c.chunk-item.is)
    ∙ c.loop-chunk.invariant

pub loop-chunk-preserved : goal.loop-chunk-preserved
loop-chunk-preserved c =
    let cs = c.args.chunks.now in
    let behind = joined (drop (c.loop-chunk.chunk-index + 1) cs) in
    sym (unit_behind c.as_slice-seats.result.now behind c.loop-chunk.rest (omega arith))
    ∙ ap (λ (l : List Seat). slice_get (names_in (l ++ behind)) c.loop-chunk.rest) c.as_slice-seats.ensures
    ∙ sym (unit_next cs c.loop-chunk.chunk-index c.loop-chunk.rest c.chunk-item.result (omega arith) c.chunk-item.is)
    ∙ c.loop-chunk.invariant
