use Rattle.df_roll.proofs.Names.{◌≡◌, List, None, Some, true, if◌then◌else◌, [], length, ◌<◌, ◌≤◌, ap, sym, subst, ◌∙◌, is_some, slice_index_or, insert, option_or, IsAscending, same, unit_cmp, joined, place_in, RollState, names_in, seat_of, Seat}
use Rattle.df_roll.proofs.Joining.{place_fits}
use Rattle.df_roll.proofs.Seating.{held, names_in-insert, seat_of-insert}
use Rattle.df_roll.proofs.roll.Roll.seat.Goals as goal

pub returns-in_default-clause-seated : goal.returns-in_default-clause-seated
returns-in_default-clause-seated c = λ n.
    let is : joined c.as_slice.result.now ≡ c.args.self.now.seats = ap joined c.as_slice.ensures.value ∙ ap (λ (r : RollState). r.seats) c.self.view_is in
    held n c.args.unit c.args.self.now.seats c.args.place (subst (λ (l : List Seat). is_some (seat_of c.args.unit l) ≡ true) is c.in_default.ensures.present)

pub invariant_of-self-2 : goal.invariant_of-self-2
invariant_of-self-2 c =
    let cs = c.self.inside.chunks.items in
    let s : Seat = record { unit = c.args.unit; place = c.args.place } in
    let at = place_in cs c.in-Some.spot.chunk c.in-Some.spot.at in
    record {
      filled = c.put.ensures.put.filled c.self.invariant.filled;
      order =
          subst (IsAscending unit_cmp) (sym (ap names_in c.put.ensures.put.seats ∙ names_in-insert (joined cs) at s))
          (subst (λ (l : List (List Seat)). IsAscending unit_cmp (insert (names_in (joined l)) (place_in l c.in-Some.spot.chunk c.in-Some.spot.at) c.args.unit)) c.as_slice.ensures.value c.in-Some.ensures.between);
    }

pub returns-clause-seated : goal.returns-clause-seated
returns-clause-seated c = λ n.
    let cs = c.self.inside.chunks.items in
    let k = c.in-Some.spot.chunk in
    let i = c.in-Some.spot.at in
    let s : Seat = record { unit = c.args.unit; place = c.args.place } in
    let is = c.as_slice.ensures.value in
    let within = subst (λ (l : List (List Seat)). c.in-Some.spot.chunk < length l) is c.in-Some.ensures.chunk in
    let fits = subst (λ (l : List (List Seat)). c.in-Some.spot.at ≤ length (slice_index_or l c.in-Some.spot.chunk [])) is (c.in-Some.ensures.at []) in
    ap (seat_of n) c.put.ensures.put.seats
    ∙ seat_of-insert n (joined cs) (place_in cs k i) s (subst (λ (l : List (List Seat)). seat_of c.args.unit (joined l) ≡ None) is c.in-Some.ensures.absent) (place_fits cs k i [] within fits)
    ∙ ap (λ (r : RollState). option_or (seat_of n r.seats) (if same c.args.unit n then Some c.args.place else None)) c.self.view_is
