-- The spreads of the window serve for all.
use Rattle.std.proofs.Common.{◌≡◌, ℕ, zero, suc, ◌≤◌, true, false, cond, List, [], ◌∷◌, ◌++◌, length, take, refl, sym, ap, ap₂, ◌∙◌, arith, nat_lt, Option, Some, None, pos, ℤ}
use Rattle.std.specs.Prelude.{◌-ℤ◌, ◌*ℤ◌}
use Rattle.std.proofs.lemmas.List.{length-take, take_all}
use Rattle.std.proofs.lemmas.Bool.Decides.{nat_tests}
use Rattle.df_pairs.specs.Divergence.{Watched, with_prices, total, side_of, next_side, signal_of}
use Rattle.df_pairs.specs.AllSpreads.{Priced, first_price, second_price, spread_of, all_spreads, side_by, signal_at, remembered}

take-take : (n m : ℕ) (ds : List ℤ) → n ≤ m → take n (take m ds) ≡ take n ds
take-take zero m ds le = refl
take-take (suc n) zero ds le = absurd (omega arith)
take-take (suc n) (suc m) [] le = refl
take-take (suc n) (suc m) (d ∷ ds) le = ap (λ l. d ∷ l) (take-take n m ds (omega arith))

-- what is kept behind a new spread was kept before
take-more : (n : ℕ) (d : ℤ) (ds : List ℤ) → take n (d ∷ take n ds) ≡ take n (d ∷ ds)
take-more zero d ds = refl
take-more (suc n) d ds = ap (λ l. d ∷ l) (take-take n (suc n) ds (omega arith))

-- too few are kept exactly where there are too few
same_test : (n : ℕ) (ds : List ℤ) → nat_lt (length (take n ds)) n ≡ nat_lt (length ds) n
same_test n ds = grind (arith, nat_tests, length-take n ds)

-- the state by all spreads
abbrev by_all : ℕ → ℤ → Option ℤ → Option ℤ → List ℤ → Watched
by_all window threshold a b ds = record {
  window = window;
  threshold = threshold;
  first = a;
  second = b;
  spreads = take window ds;
  side = side_by window threshold ds;
}

same_side : (window : ℕ) (threshold : ℤ) (ds : List ℤ) (d : ℤ) → next_side window threshold (side_by window threshold ds) (take window ds) d ≡ side_by window threshold (d ∷ ds)
same_side window threshold ds d =
    ap (λ t. cond t (side_by window threshold ds) (side_of (pos window *ℤ threshold) ((pos window *ℤ d) -ℤ total (take window ds)))) (same_test window ds)

step : (window : ℕ) (threshold : ℤ) (a b : Option ℤ) (ds : List ℤ) → with_prices (by_all window threshold a b ds) a b ≡ by_all window threshold a b (spread_of a b ++ ds)
step window threshold (Some a) (Some b) ds =
    ap₂ (λ spreads side. record { window = window; threshold = threshold; first = Some a; second = Some b; spreads = spreads; side = side }) (take-more window (a -ℤ b) ds) (same_side window threshold ds (a -ℤ b))
step window threshold (Some a) None ds = refl
step window threshold None b ds = refl

-- what is remembered after all ticks
pub remembered-is : (window : ℕ) (threshold : ℤ) (past : List Priced) → remembered window threshold past ≡ by_all window threshold (first_price past) (second_price past) (all_spreads past)
remembered-is window threshold [] = ap (λ (l : List ℤ). record { window = window; threshold = threshold; first = None; second = None; spreads = l; side = pos 0 }) (sym (take_all window [] (omega arith)))
remembered-is window threshold ((true, price) ∷ past) =
    ap (λ w. with_prices (record w { first = Some price }) (Some price) w.second) (remembered-is window threshold past) ∙ step window threshold (Some price) (second_price past) (all_spreads past)
remembered-is window threshold ((false, price) ∷ past) =
    ap (λ w. with_prices (record w { second = Some price }) w.first (Some price)) (remembered-is window threshold past) ∙ step window threshold (first_price past) (Some price) (all_spreads past)

-- the signals are those by all spreads
pub signals-are : (window : ℕ) (threshold : ℤ) (t : Priced) (past : List Priced)
    → signal_of (remembered window threshold past).side (remembered window threshold (t ∷ past)).side (remembered window threshold (t ∷ past)).first (remembered window threshold (t ∷ past)).second ≡ signal_at window threshold t past
signals-are window threshold t past =
    ap₂ (λ (v w : Watched). signal_of v.side w.side w.first w.second) (remembered-is window threshold past) (remembered-is window threshold (t ∷ past))
