-- When a configuration is in form.
use Rattle.std.specs.Prelude.{◌≡◌, ◌≢◌, ◌≤◌, ◌<◌, ◌≤ℤ◌, ℕ, Bool, true, not, ◌&&◌, ◌==◌, List, [], ◌∷◌, length, pos, All}
use Rattle.std.specs.List.{list_any}
use Rattle.df_records.specs.Fields.{is_symbol}
use Rattle.df_config.specs.declared.config.Config.{Config}
use Rattle.df_config.specs.declared.pair.PairRow.{PairRow}
use Rattle.df_config.specs.declared.trader.TraderRow.{TraderRow}

-- no number stands twice
abbrev pub are_different : List ℕ → Bool
are_different [] = true
are_different (n ∷ ns) = not (list_any (λ m. m == n) ns) && are_different ns

-- a pair: two different symbols, and a threshold from 0 to 1,000,000,000
pub record IsPair (p : PairRow) : Type 0 where
  pub first : is_symbol p.first ≡ true
  pub second : is_symbol p.second ≡ true
  pub different : p.first ≢ p.second
  pub threshold_from : pos 0 ≤ℤ p.threshold
  pub threshold_to : p.threshold ≤ℤ pos 1_000_000_000

-- 1 to 16 pairs
pub record ArePairs (ps : List PairRow) : Type 0 where
  pub some : 1 ≤ length ps
  pub few : length ps ≤ 16
  pub each : All IsPair ps

-- 1 to 16 different numbers below a count
pub record AreNumbers (count : ℕ) (ns : List ℕ) : Type 0 where
  pub some : 1 ≤ length ns
  pub few : length ns ≤ 16
  pub below : All (λ n. n < count) ns
  pub different : are_different ns ≡ true

-- a trader over so many pairs: a quantity from 1 to 1,000,000, and a slack from 0 to 1,000,000
pub record IsTrader (count : ℕ) (t : TraderRow) : Type 0 where
  pub pairs : AreNumbers count t.pairs
  pub quantity_from : pos 1 ≤ℤ t.quantity
  pub quantity_to : t.quantity ≤ℤ pos 1_000_000
  pub slack_from : pos 0 ≤ℤ t.slack
  pub slack_to : t.slack ≤ℤ pos 1_000_000

-- 1 to 64 traders
pub record AreTraders (count : ℕ) (ts : List TraderRow) : Type 0 where
  pub some : 1 ≤ length ts
  pub few : length ts ≤ 64
  pub each : All (IsTrader count) ts

-- a configuration: 1 to 1,000,000 steps, a window from 1 to 1,000, pairs, and traders over them
pub record IsConfig (c : Config) : Type 0 where
  pub steps_from : 1 ≤ c.max_steps
  pub steps_to : c.max_steps ≤ 1_000_000
  pub window_from : 1 ≤ c.window
  pub window_to : c.window ≤ 1_000
  pub pairs : ArePairs c.pairs
  pub traders : AreTraders (length c.pairs) c.traders
