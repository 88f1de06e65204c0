use Rattle.df_tables.proofs.Names.{◌≡◌, ℕ, if◌then◌else◌, [], ◌∷◌, ◌++◌, Some, None, length, refl, ap, sym, ◌∙◌, arith, is_none, option_or, same, UnitName, seat_of}
use Rattle.df_tables.specs.declared.births.Beside.{Beside}
use Rattle.df_tables.proofs.Newborn.{board_had, board_new}
use Rattle.df_tables.proofs.board.Board.bear_in_room.Goals as goal

pub seat-requires : goal.seat-requires
seat-requires c = let h = c.requires.room.seats in omega (arith, h)

pub returns-then-not-seat-clause-board : goal.returns-then-not-seat-clause-board
returns-then-not-seat-clause-board c =
    let old = c.args.self.now in
    let name : c.args.beside.name ≡ c.args.born.local.unit = ap (λ (b : Beside). b.name) c.requires.beside in
    let place : c.len-place.result ≡ length old.rows.items = omega (arith, old.rows.ok.0) in
    board_had old _ c.args.born c.requires.board c.requires.calm
    (λ n. c.seat.ensures.seated n
    ∙ ap (λ (m : UnitName). option_or (seat_of n old.roll.seats) (if same m n then Some c.len-place.result else None)) name
    ∙ ap (λ (k : ℕ). option_or (seat_of n old.roll.seats) (if same c.args.born.local.unit n then Some k else None)) place)
    refl refl refl
    (ap (λ (m : UnitName). is_none (seat_of m old.roll.seats)) (sym name) ∙ sym c.seat.ensures.told ∙ c.if-not-seat.true)
    refl refl

pub returns-clause-board : goal.returns-clause-board
returns-clause-board c =
    let old = c.args.self.now in
    let name : c.args.beside.name ≡ c.args.born.local.unit = ap (λ (b : Beside). b.name) c.requires.beside in
    let place : c.len-place.result ≡ length old.rows.items = omega (arith, old.rows.ok.0) in
    board_new old _ c.args.born c.requires.board c.requires.calm
    (λ n. c.seat.ensures.seated n
    ∙ ap (λ (m : UnitName). option_or (seat_of n old.roll.seats) (if same m n then Some c.len-place.result else None)) name
    ∙ ap (λ (k : ℕ). option_or (seat_of n old.roll.seats) (if same c.args.born.local.unit n then Some k else None)) place)
    refl refl refl
    (ap (λ (m : UnitName). is_none (seat_of m old.roll.seats)) (sym name) ∙ sym c.seat.ensures.told ∙ c.if-not-seat.false)
    c.push_reserved-2.ensures.items
    (c.push_reserved.ensures.items ∙ ap (λ (b : Beside). old.labels.items ++ b.label ∷ []) c.requires.beside)
