-- The last spreads, kept with their sum.
use Rattle.std.specs.Prelude.{◌≡◌, ℕ, ◌^◌, ◌≤◌, ◌<◌, List, [], ◌∷◌, length, ℤ, pos, neg_ℤ, ◌≤ℤ◌}
use Rattle.std.specs.VecDeque.{deque_len, deque_capacity}
use Rattle.std.specs.declared.collections.VecDeque.{VecDeque}
use Rattle.std.specs.declared.alloc.Global.{Global}
use Rattle.df_pairs.specs.Divergence.{total}

-- the last spreads, at most so many, the newest first
pub record Window : Type 0 where
  pub most : ℕ
  pub spreads : List ℤ

-- a difference of two prices
pub record IsSpread (d : ℤ) : Type 0 where
  pub least : neg_ℤ (pos (2 ^ 64)) ≤ℤ d
  pub most : d ≤ℤ pos (2 ^ 64)

-- differences of prices, each of them
abbrev pub AreSpreads : List ℤ → Type 0
AreSpreads [] = Unit {0}
AreSpreads (d ∷ ds) = IsSpread d × AreSpreads ds

-- spreads with their sum beside them, and room for as many as are kept
pub record IsSummed (kept : VecDeque ℤ Global) (sum : ℤ) (most : ℕ) : Type 0 where
  pub summed : sum ≡ total kept.items
  pub spreads : AreSpreads kept.items
  pub long : deque_len kept ≡ length kept.items
  pub few : deque_len kept ≤ most
  pub room : most ≤ deque_capacity kept
  pub some : 1 ≤ most
  pub narrow : most < 2 ^ 32
