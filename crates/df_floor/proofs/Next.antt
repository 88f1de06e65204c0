-- What a loop pushes next.
use Rattle.std.proofs.Common.{ℕ, ◌+◌, ◌≡◌, ◌<◌, suc, List, [], ◌∷◌, ◌++◌, ap, ◌∙◌, drop, length, pos, false, arith}
use Rattle.std.proofs.Math.Seq.{drop-cons}
use Rattle.std.proofs.lemmas.List.{append_assoc}
use Rattle.df_config.specs.declared.trader.TraderRow.{TraderRow}
use Rattle.df_start.specs.declared.start.RootStart.{RootStart}
use Rattle.df_floor.specs.Starting.{monitor_root, monitors_of, trader_root, trader_roots}

none : TraderRow
none = record { pairs = []; quantity = pos 0; slack = pos 0; contrary = false }

pub next_trader : (i : ℕ) (ts : List TraderRow) → i < length ts → trader_roots i (drop i ts) ≡ trader_root i ∷ trader_roots (i + 1) (drop (i + 1) ts)
next_trader i ts below =
    let one : suc i ≡ i + 1 = omega arith in
    ap (trader_roots i) (drop-cons ts i none below) ∙ ap (λ k. trader_root i ∷ trader_roots (i + 1) (drop k ts)) one

pub next_monitor : (number i : ℕ) (ns : List ℕ) → i < length ns → monitors_of number (drop i ns) ≡ monitor_root number ∷ monitors_of number (drop (i + 1) ns)
next_monitor number i ns below =
    let one : suc i ≡ i + 1 = omega arith in
    ap (monitors_of number) (drop-cons ns i 0 below) ∙ ap (λ k. monitor_root number ∷ monitors_of number (drop k ns)) one

-- one more root, and the rest behind it
pub one_more : (roots more all : List RootStart) (r : RootStart) (rest : List RootStart) → more ≡ roots ++ r ∷ [] → roots ++ r ∷ rest ≡ all → more ++ rest ≡ all
one_more roots more all r rest is before = ap (λ rs. rs ++ rest) is ∙ append_assoc roots (r ∷ []) rest ∙ before
