-- The configuration of the load is in form.
use Rattle.df_floor_run.proofs.Names.{ℕ, List, [], ◌∷◌, true, false, true≢false, refl, sym, ap, arith, codes, pos, All, bytes_eq, AreNumbers, IsConfig, IsPair, IsTrader, load_config, load_pair, load_pairs, load_trader, load_traders}
use Rattle.std.specs.Prelude.{◌<◌}
use Rattle.std.proofs.lemmas.List.Elements.{All-cons, All-nil}

first_pair : IsPair (load_pair (codes "AAA") (codes "BBB"))
first_pair = record {
  first = refl;
  second = refl;
  different = λ e. true≢false (sym (ap (λ (s : List ℕ). bytes_eq s (codes "BBB")) e));
  threshold_from = grind arith;
  threshold_to = grind arith;
}

second_pair : IsPair (load_pair (codes "CCC") (codes "DDD"))
second_pair = record {
  first = refl;
  second = refl;
  different = λ e. true≢false (sym (ap (λ (s : List ℕ). bytes_eq s (codes "DDD")) e));
  threshold_from = grind arith;
  threshold_to = grind arith;
}

pairs : All IsPair load_pairs
pairs =
    All-cons IsPair (load_pair (codes "AAA") (codes "BBB")) (load_pair (codes "CCC") (codes "DDD") ∷ []) first_pair
    (All-cons IsPair (load_pair (codes "CCC") (codes "DDD")) [] second_pair (All-nil IsPair))

below_two : (n : ℕ) → n < 2 → All (λ (m : ℕ). m < 2) (n ∷ [])
below_two n h = All-cons (λ (m : ℕ). m < 2) n [] h (All-nil (λ (m : ℕ). m < 2))

both : AreNumbers 2 (0 ∷ 1 ∷ [])
both = record {
  some = omega arith;
  few = omega arith;
  below = All-cons (λ (m : ℕ). m < 2) 0 (1 ∷ []) (omega arith) (below_two 1 (omega arith));
  different = refl;
}

one : (n : ℕ) → n < 2 → AreNumbers 2 (n ∷ [])
one n h = record { some = omega arith; few = omega arith; below = below_two n h; different = refl }

big : IsTrader 2 (load_trader (0 ∷ 1 ∷ []) (pos 10) false)
big = record { pairs = both; quantity_from = grind arith; quantity_to = grind arith; slack_from = grind arith; slack_to = grind arith }

seven : IsTrader 2 (load_trader (0 ∷ []) (pos 7) true)
seven = record { pairs = one 0 (omega arith); quantity_from = grind arith; quantity_to = grind arith; slack_from = grind arith; slack_to = grind arith }

four : IsTrader 2 (load_trader (1 ∷ []) (pos 4) true)
four = record { pairs = one 1 (omega arith); quantity_from = grind arith; quantity_to = grind arith; slack_from = grind arith; slack_to = grind arith }

traders : All (IsTrader 2) load_traders
traders =
    All-cons (IsTrader 2) (load_trader (0 ∷ 1 ∷ []) (pos 10) false) (load_trader (0 ∷ []) (pos 7) true ∷ load_trader (1 ∷ []) (pos 4) true ∷ []) big
    (All-cons (IsTrader 2) (load_trader (0 ∷ []) (pos 7) true) (load_trader (1 ∷ []) (pos 4) true ∷ []) seven
    (All-cons (IsTrader 2) (load_trader (1 ∷ []) (pos 4) true) [] four (All-nil (IsTrader 2))))

pub load_form : IsConfig load_config
load_form = record {
  steps_from = omega arith;
  steps_to = omega arith;
  window_from = omega arith;
  window_to = omega arith;
  pairs = record { some = omega arith; few = omega arith; each = pairs };
  traders = record { some = omega arith; few = omega arith; each = traders };
}
