use Rattle.df_roll.proofs.Names.{◌≡◌, ℕ, ◌+◌, List, ◌++◌, reverse, vec_capacity, vec_len, Seat}
use Rattle.df_roll.proofs.chunk.pour.Given as goal

-- so many seats of a full row are moved
pub record IsPoured (moved below above : ℕ) (lower upper whole : List Seat) : Type 0 where
  pub seats : lower ++ reverse upper ≡ whole
  pub stay : below + moved ≡ 32
  pub come : above ≡ moved

abbrev pub invariant-loop : goal.invariant-loop
invariant-loop l =
    IsPoured l.counter (vec_len l.lower) (vec_len l.upper) l.lower.items l.upper.items l.fn.lower.items
    × (vec_capacity l.lower ≡ vec_capacity l.fn.lower)
    × (vec_capacity l.upper ≡ vec_capacity l.fn.upper)
