use Rattle.df_roll.proofs.Names.{◌≡◌, ◌-◌, ◌*◌, ◌<◌, List, Some, get_or, length, ap, sym, subst, ◌∙◌, arith, Seat}
use Rattle.df_roll.proofs.Spots.{seat_there}
use Rattle.df_roll.proofs.chunks.guessed.Goals as goal

pub returns-then-at-seats : goal.returns-then-at-seats
returns-then-at-seats c ordered =
    let cs = c.args.chunks.now in
    let k = c.min-chunk.result in
    let i = c.in_ok-root.root - k * 16 in
    let chunk = c.index-chunks-chunk.result in
    let seat = c.index-seats-at.result in
    let mine : c.as_slice-seats.result.now ≡ get_or cs k chunk = c.as_slice-seats.ensures ∙ c.index-chunks-chunk.is in
    let is : seat ≡ get_or (get_or cs k chunk) i seat = subst (λ (l : List Seat). seat ≡ get_or l i seat) mine c.index-seats-at.is in
    let within : k < length cs = omega (arith, c.min-chunk.ensures, c.in_ok-last.ensures) in
    let fits : i < length (get_or cs k chunk) = subst (λ (l : List Seat). i < length l) mine c.if-at-seats.true in
    seat_there seat.unit cs k i chunk seat ordered within fits (ap (λ (t : Seat). t.unit) (sym is)) ∙ ap (λ (t : Seat). Some t.place) (sym is)
