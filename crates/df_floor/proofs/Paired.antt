-- There are as many brains as roots.
use Rattle.std.proofs.Common.{ℕ, ◌+◌, ◌≡◌, ◌<◌, suc, refl, List, [], ◌∷◌, ap, length, length-append, pos, arith}
use Rattle.std.specs.Prelude.{All, slice_get}
use Rattle.std.proofs.lemmas.Option.{slice_get-get_or}
use Rattle.df_config.specs.ConfigForm.{IsConfig, IsTrader}
use Rattle.df_config.specs.declared.config.Config.{Config}
use Rattle.df_config.specs.declared.pair.PairRow.{PairRow}
use Rattle.df_config.specs.declared.trader.TraderRow.{TraderRow}
use Rattle.df_ticks.specs.declared.tick.Tick.{Tick}
use Rattle.df_floor.specs.Brains.{floor_brains, monitor_brains, trader_brains, watched}
use Rattle.df_floor.specs.Brains as brains
use Rattle.df_floor.specs.Starting.{floor_start, monitor_roots, trader_roots}
use Rattle.df_floor.specs.Starting as roots

traders : (j : ℕ) (ts : List TraderRow) → length (trader_brains j ts) ≡ length (trader_roots j ts)
traders j [] = refl
traders j (t ∷ ts) = ap suc (traders (j + 1) ts)

none : PairRow
none = record { first = []; second = []; threshold = pos 0 }

one_watched : (window : ℕ) (ps : List PairRow) (n : ℕ) → n < length ps → length (watched window (slice_get ps n)) ≡ 1
one_watched window ps n below = ap (λ p. length (watched window p)) (slice_get-get_or ps n none below)

monitors : (window : ℕ) (ps : List PairRow) (j : ℕ) (ns : List ℕ) → All (λ n. n < length ps) ns →
    length (brains.monitors_of window ps ns) ≡ length (roots.monitors_of j ns)
monitors window ps j [] h = refl
monitors window ps j (n ∷ ns) h =
    let first : n < length ps = h 0 n (omega arith) in
    let here = one_watched window ps n first in
    let again = monitors window ps j ns (λ k d below. h (suc k) d (omega arith)) in
    let both = length-append (watched window (slice_get ps n)) (brains.monitors_of window ps ns) in
    omega arith

all_monitors : (window : ℕ) (ps : List PairRow) (j : ℕ) (ts : List TraderRow) → All (IsTrader (length ps)) ts →
    length (monitor_brains window ps ts) ≡ length (monitor_roots j ts)
all_monitors window ps j [] h = refl
all_monitors window ps j (t ∷ ts) h =
    let first : IsTrader (length ps) t = h 0 t (omega arith) in
    let here = monitors window ps j t.pairs first.pairs.below in
    let again = all_monitors window ps (j + 1) ts (λ k d below. h (suc k) d (omega arith)) in
    let some = length-append (brains.monitors_of window ps t.pairs) (monitor_brains window ps ts) in
    let other = length-append (roots.monitors_of j t.pairs) (monitor_roots (j + 1) ts) in
    omega arith

pub paired : (c : Config) (ticks : List Tick) → IsConfig c → length (floor_brains c ticks) ≡ length (floor_start c)
paired c ticks i =
    let here = traders 0 c.traders in
    let there = all_monitors c.window c.pairs 0 c.traders i.traders.each in
    let some = length-append (trader_brains 0 c.traders) (monitor_brains c.window c.pairs c.traders) in
    let other = length-append (trader_roots 0 c.traders) (monitor_roots 0 c.traders) in
    omega arith
