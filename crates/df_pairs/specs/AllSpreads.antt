-- The same rule over all ticks so far, the newest first.
use Rattle.std.specs.Prelude.{ℕ, Bool, true, false, List, [], ◌∷◌, ◌++◌, length, take, nat_lt, if◌then◌else◌, Option, Some, None, ℤ, pos, ◌-ℤ◌, ◌*ℤ◌}
use Rattle.df_pairs.specs.Divergence.{Watched, fresh, after, total, side_of, signal_of}
use Rattle.df_pairs.specs.declared.signal.Signal.{Signal}

-- a tick: whether it is of the first symbol, and the price
abbrev pub Priced : Type 0
Priced = Bool × ℤ

-- the last price of the first symbol
abbrev pub first_price : List Priced → Option ℤ
first_price [] = None
first_price ((true, price) ∷ past) = Some price
first_price ((false, price) ∷ past) = first_price past

-- the last price of the second symbol
abbrev pub second_price : List Priced → Option ℤ
second_price [] = None
second_price ((true, price) ∷ past) = second_price past
second_price ((false, price) ∷ past) = Some price

-- the spread of two prices, where both are known
abbrev pub spread_of : Option ℤ → Option ℤ → List ℤ
spread_of (Some a) (Some b) = (a -ℤ b) ∷ []
spread_of (Some a) None = []
spread_of None b = []

-- all spreads: one at each tick at which both prices are known
abbrev pub all_spreads : List Priced → List ℤ
all_spreads [] = []
all_spreads (t ∷ past) =
    spread_of (first_price (t ∷ past)) (second_price (t ∷ past)) ++ all_spreads past

-- the side by all spreads: each is held against the window of those before it
abbrev pub side_by : ℕ → ℤ → List ℤ → ℤ
side_by window threshold [] = pos 0
side_by window threshold (d ∷ ds) =
    if nat_lt (length ds) window then side_by window threshold ds
    else side_of (pos window *ℤ threshold) ((pos window *ℤ d) -ℤ total (take window ds))

-- the signal at a tick, by all spreads with it and without it
abbrev pub signal_at : ℕ → ℤ → Priced → List Priced → Option Signal
signal_at window threshold t past =
    signal_of (side_by window threshold (all_spreads past))
    (side_by window threshold (all_spreads (t ∷ past))) (first_price (t ∷ past))
    (second_price (t ∷ past))

-- what is remembered after all ticks
abbrev pub remembered : ℕ → ℤ → List Priced → Watched
remembered window threshold [] = fresh window threshold
remembered window threshold ((first, price) ∷ past) =
    after (remembered window threshold past) first price
