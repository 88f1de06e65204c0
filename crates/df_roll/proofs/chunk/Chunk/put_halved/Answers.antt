use Rattle.df_roll.proofs.Names.{List, ◌++◌, ap, sym, ◌∙◌, arith, insert-append_right, insert, Seat}
use Rattle.df_roll.proofs.chunk.Chunk.put_halved.Goals as goal

pub returns-else-at-le-HALF-clause-seats : goal.returns-else-at-le-HALF-clause-seats
returns-else-at-le-HALF-clause-seats c =
    ap (λ (l : List Seat). c.halve.new.self ++ l) c.put-else-at-le-HALF.ensures
    ∙ sym (insert-append_right c.halve.new.self c.halve.new.upper 16 c.args.at c.args.seat c.halve.ensures.lower (omega arith))
    ∙ ap (λ (l : List Seat). insert l c.args.at c.args.seat) c.halve.ensures.seats
