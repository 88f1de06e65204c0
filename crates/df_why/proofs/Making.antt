-- Where things are made, as far as the tracks are gone over.
use Rattle.std.proofs.Common.{◌≡◌, ℕ, ◌<◌, List, length, get_or, Option, None}
use Rattle.df_why.specs.code.Tracks.{makes_at}
use Rattle.df_why.specs.declared.tracks.Track.{Track}

pub record IsMadeSoFar (count : ℕ) (tracks : List Track) (i : ℕ) (made : List (Option ℕ)) : Type 0 where
  pub size : length made ≡ count
  pub places : (k : ℕ) → k < count → get_or made k None ≡ makes_at k tracks i
