-- A floor has few roots.
use Rattle.std.proofs.Common.{ℕ, ◌+◌, ◌*◌, ◌^◌, ◌≤◌, ◌<◌, List, [], ◌∷◌, suc, length, length-append, arith}
use Rattle.std.specs.Prelude.{All}
use Rattle.df_config.specs.ConfigForm.{IsConfig, IsTrader}
use Rattle.df_config.specs.declared.config.Config.{Config}
use Rattle.df_config.specs.declared.trader.TraderRow.{TraderRow}
use Rattle.df_floor.specs.Starting.{floor_start, monitor_roots, monitors_of, trader_roots}

few_traders : (j : ℕ) (ts : List TraderRow) → length (trader_roots j ts) ≤ length ts
few_traders j [] = omega arith
few_traders j (t ∷ ts) = let again = few_traders (j + 1) ts in omega arith

few_of : (j : ℕ) (ns : List ℕ) → length (monitors_of j ns) ≤ length ns
few_of j [] = omega arith
few_of j (n ∷ ns) = let again = few_of j ns in omega arith

few_monitors : (count j : ℕ) (ts : List TraderRow) → All (IsTrader count) ts → length (monitor_roots j ts) ≤ 16 * length ts
few_monitors count j [] h = omega arith
few_monitors count j (t ∷ ts) h =
    let first : IsTrader count t = h 0 t (omega arith) in
    let again = few_monitors count (j + 1) ts (λ k d below. h (suc k) d (omega arith)) in
    let here = few_of j t.pairs in
    let few = first.pairs.few in
    let both = length-append (monitors_of j t.pairs) (monitor_roots (j + 1) ts) in
    omega arith

pub few_roots : (c : Config) → IsConfig c → length (floor_start c) < 2 ^ 32
few_roots c i =
    let traders = few_traders 0 c.traders in
    let monitors = few_monitors (length c.pairs) 0 c.traders i.traders.each in
    let few = i.traders.few in
    let both = length-append (trader_roots 0 c.traders) (monitor_roots 0 c.traders) in
    omega arith
