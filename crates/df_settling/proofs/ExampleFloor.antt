-- A small floor, run to its end: two traders, one of them contrary, with a monitor each.
use Rattle.df_settling.proofs.Names.{◌≡◌, ℕ, zero, suc, ◌+◌, List, [], ◌∷◌, ◌++◌, Bool, true, false, refl, cond, length, is_some, codes, pos, filter, Config, TraderRow, own, rows, Tick, same, Call, Get, Publish, Subscribe, SubscribeManaged, Entry, Done, Emitted, UnitName, entries_of, handed_to, instance_name, orders_resting, root_name, trades_made, asked, run_of, first_states, settling_bound}

abbrev trader : ℕ → Bool → TraderRow
trader quantity contrary = record { pairs = 0 ∷ []; quantity = pos quantity; slack = pos 5; contrary = contrary }

abbrev small : Config
small = record {
  max_steps = 10_000;
  window = 2;
  pairs = record { first = codes "AAA"; second = codes "BBB"; threshold = pos 50 } ∷ [];
  traders = trader 10 false ∷ trader 4 true ∷ [];
}

abbrev first_tick : ℕ → Tick
first_tick price = record { symbol = codes "AAA"; price = pos price }

abbrev second_tick : ℕ → Tick
second_tick price = record { symbol = codes "BBB"; price = pos price }

abbrev ticks : List Tick
ticks = first_tick 1000 ∷ second_tick 1000 ∷ first_tick 1010 ∷ first_tick 1100 ∷ second_tick 1010 ∷ first_tick 900 ∷ []

-- so many turns of a unit
abbrev times : ℕ → ℕ → List UnitName
times zero k = []
times (suc n) k = root_name k ∷ times n k

abbrev opening_turns : List UnitName
opening_turns = times 3 1 ++ times 2 2 ++ times 4 3 ++ times 4 4 ++ times 3 5 ++ times 3 6

-- the roots but the exchange open, with 13 entries
abbrev opened : List Entry
opened = run_of small ticks opening_turns []

opens : length opened ≡ 13
opens = refl

-- a turn ends with a call that concerns others

abbrev is_shared : Call → Bool
is_shared Get = true
is_shared (Publish h) = true
is_shared (Subscribe f) = true
is_shared (SubscribeManaged f) = true
is_shared _ = false

abbrev ends : List Entry → Bool
ends [] = true
ends (Done a c r f ∷ past) = is_shared c
ends (Emitted c ∷ past) = true

abbrev longer : List Entry → List Entry → Bool
longer [] past = false
longer (e ∷ next) [] = true
longer (e ∷ next) (x ∷ past) = longer next past

abbrev turn : ℕ → UnitName → List Entry → List Entry
turn zero u past = past
turn (suc n) u past =
    let next = asked small ticks past u in
    cond (longer next past) (cond (ends next) next (turn n u next)) past

abbrev turns : List UnitName → List Entry → List Entry
turns [] past = past
turns (u ∷ us) past = turns us (turn 12 u past)

abbrev units : List UnitName
units = root_name 0 ∷ root_name 1 ∷ root_name 2 ∷ root_name 3 ∷ root_name 4 ∷ root_name 5 ∷ root_name 6 ∷ instance_name ∷ []

-- the units that are there take a turn each
abbrev pass : List Entry → List Entry
pass past = turns (filter (λ u. is_some (own rows (first_states small) past u)) units) past

abbrev passes : ℕ → List Entry → List Entry
passes zero past = past
passes (suc n) past = passes n (pass past)

first_pass : length (passes 1 opened) ≡ 18
first_pass = refl

second_pass : length (turn 12 (root_name 0) (passes 1 opened)) ≡ 21
second_pass = refl

-- how many events a unit published
abbrev published_by : UnitName → List Entry → ℕ
published_by u [] = 0
published_by u (Done a (Publish h) r f ∷ past) = cond (same a u) 1 0 + published_by u past
published_by u (_ ∷ past) = published_by u past

-- entries, matches, orders, trades and warnings
abbrev counts : List Entry → ℕ × ℕ × ℕ × ℕ × ℕ
counts past = (
  length past,
  published_by (root_name 5) past + published_by (root_name 6) past,
  published_by (root_name 3) past + published_by (root_name 4) past,
  published_by (root_name 1) past,
  published_by instance_name past,
)

-- the broker's entries, the orders that it is handed, the trades that its book makes of them, and the orders that rest
abbrev sales : List Entry → ℕ × ℕ × ℕ × ℕ
sales past = (
  entries_of (root_name 1) past,
  length (handed_to small past (root_name 1)),
  trades_made small past,
  length (orders_resting small past),
)

abbrev both : List Entry → (ℕ × ℕ × ℕ × ℕ × ℕ) × (ℕ × ℕ × ℕ × ℕ)
both past = (counts past, sales past)

-- the whole run, after which nobody wants anything more: the broker's 56 entries are 2, 3 for each order and 6 for each trade
whole : both (passes 60 opened) ≡ ((220, 4, 8, 5, 1), (56, 8, 5, 2))
whole = refl

ended : length (passes 61 opened) ≡ 220
ended = refl

bound : settling_bound small ticks ≡ 740
bound = refl
