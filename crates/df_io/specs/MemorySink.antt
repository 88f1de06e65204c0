-- A sink in memory.
use Rattle.std.specs.Prelude.{◌≡◌, ℕ, ◌<◌, List, length, ◌⊎◌, Contains}
use Rattle.df_io.specs.Faults.{count_more}

-- what was written, the numbers of the writes that fail, the room that is left, the most bytes of
-- one write, and the counts of writes and of faults
pub record SinkState : Type 0 where
  pub bytes : List ℕ
  pub failing : List ℕ
  pub room : ℕ
  pub most : ℕ
  pub calls : ℕ
  pub faults : ℕ

-- the next write of a piece fails: it is one of those that do, or there is no room for it
abbrev pub FailsWrite : SinkState → List ℕ → Type 0
FailsWrite s piece = Contains s.failing (count_more s.calls) ⊎ ((0 < length piece) × (s.room ≡ 0))
