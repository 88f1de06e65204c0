-- The divergence rule: which side of two symbols is too dear, by their spreads.
use Rattle.std.specs.Prelude.{ℕ, Bool, ◌||◌, List, [], ◌∷◌, length, take, nat_lt, if◌then◌else◌, Option, Some, None, ℤ, pos, negsuc, ◌+ℤ◌, ◌-ℤ◌, ◌*ℤ◌, neg_ℤ, int_lt}
use Rattle.std.specs.Ordering.{int_eq}
use Rattle.df_pairs.specs.declared.signal.Signal.{Signal}

-- what a pair remembers: its terms, the last prices, the last spreads (the newest first), the side
pub record Watched : Type 0 where
  pub window : ℕ
  pub threshold : ℤ
  pub first : Option ℤ
  pub second : Option ℤ
  pub spreads : List ℤ
  pub side : ℤ

-- a pair before its first tick
abbrev pub fresh : ℕ → ℤ → Watched
fresh window threshold = record {
  window = window;
  threshold = threshold;
  first = None;
  second = None;
  spreads = [];
  side = pos 0;
}

-- the sum of spreads
abbrev pub total : List ℤ → ℤ
total [] = pos 0
total (d ∷ ds) = d +ℤ total ds

-- the side of a deviation: 1 above the limit, -1 below its negative, else 0
abbrev pub side_of : ℤ → ℤ → ℤ
side_of limit deviation =
    if int_lt limit deviation then pos 1
    else if int_lt limit (neg_ℤ deviation) then negsuc 0
    else pos 0

-- the side after a spread d, by the spreads before it: it stays where they are too few
abbrev pub next_side : ℕ → ℤ → ℤ → List ℤ → ℤ → ℤ
next_side window threshold side ds d =
    if nat_lt (length ds) window then side
    else side_of (pos window *ℤ threshold) ((pos window *ℤ d) -ℤ total ds)

-- a spread comes behind the others, of which the last ones of the window are kept
abbrev pub with_spread : Watched → ℤ → Watched
with_spread w d = record w {
  spreads = take w.window (d ∷ w.spreads);
  side = next_side w.window w.threshold w.side w.spreads d;
}

-- nothing more is done where a price is still unknown
abbrev pub with_prices : Watched → Option ℤ → Option ℤ → Watched
with_prices w (Some a) (Some b) = with_spread w (a -ℤ b)
with_prices w (Some a) None = w
with_prices w None b = w

-- the price of a symbol, the first or the second, is set
abbrev pub priced : Watched → Bool → ℤ → Watched
priced w first price =
    if first then record w { first = Some price } else record w { second = Some price }

-- what is remembered after a tick
abbrev pub after : Watched → Bool → ℤ → Watched
after w first price =
    with_prices (priced w first price) (priced w first price).first (priced w first price).second

-- a signal with the last prices
abbrev pub at_prices : ℤ → Option ℤ → Option ℤ → Option Signal
at_prices side (Some a) (Some b) = Some (record { side = side; first = a; second = b })
at_prices side (Some a) None = None
at_prices side None b = None

-- there is a signal exactly where the new side isn't 0 and differs from the old one
abbrev pub signal_of : ℤ → ℤ → Option ℤ → Option ℤ → Option Signal
signal_of old new first second =
    if int_eq new (pos 0) || int_eq new old then None else at_prices new first second
