use Rattle.df_roll.proofs.Names.{rules, always_returns_same, unit_cmp, Seat}
use Rattle.df_roll.proofs.Seating.{searched}
use Rattle.df_roll.proofs.seat.seat_at.Goals as goal

pub returns-clause-found : goal.returns-clause-found
returns-clause-found c =
    let facts = c.binary_search_by.ensures in
    let by_order = facts.position (λ (s : Seat). unit_cmp s.unit c.args.name.now) (always_returns_same _ _ _ (λ a r g called. search rules)) in
    (searched c.args.name.now c.args.seats.now c.requires c.binary_search_by.result facts.bound by_order).found

pub returns-clause-absent : goal.returns-clause-absent
returns-clause-absent c =
    let facts = c.binary_search_by.ensures in
    let by_order = facts.position (λ (s : Seat). unit_cmp s.unit c.args.name.now) (always_returns_same _ _ _ (λ a r g called. search rules)) in
    (searched c.args.name.now c.args.seats.now c.requires c.binary_search_by.result facts.bound by_order).absent

pub returns-clause-between : goal.returns-clause-between
returns-clause-between c =
    let facts = c.binary_search_by.ensures in
    let by_order = facts.position (λ (s : Seat). unit_cmp s.unit c.args.name.now) (always_returns_same _ _ _ (λ a r g called. search rules)) in
    (searched c.args.name.now c.args.seats.now c.requires c.binary_search_by.result facts.bound by_order).between
