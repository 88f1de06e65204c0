-- The ticks of a file are in form.
use Rattle.std.proofs.Common.{◌≡◌, ℕ, ◌≤◌, Bool, true, false, cond, List, [], ◌∷◌, refl, subst, arith, Option, Some, None}
use Rattle.std.specs.Prelude.{All}
use Rattle.std.proofs.lemmas.Int.{ints}
use Rattle.df_records.specs.Fields.{is_symbol, number}
use Rattle.df_records.specs.RecordFile.{Fields}
use Rattle.df_records.proofs.Fields.{number_in, some_is}
use Rattle.df_records.proofs.Reading.{all_told}
use Rattle.df_ticks.specs.declared.tick.Tick.{Tick}
use Rattle.df_ticks.specs.TickFile.{tick_with, tick_of_two, tick_of, IsTick, IsTickFile}

with_in : (symbol : List ℕ) (price : Option ℕ) (t : Tick) → is_symbol symbol ≡ true → ((n : ℕ) → price ≡ Some n → (1 ≤ n) × (n ≤ 1_000_000_000))
    → tick_with symbol price ≡ Some t → IsTick t
with_in symbol (Some n) t s p h =
    let bounds = p n refl in
    subst IsTick (some_is _ t h) (record { symbol = s; price_from = omega (arith, ints, bounds.0); price_to = omega (arith, ints, bounds.1) })
with_in symbol None t s p h = absurd cc

two_in : (symbol price : List ℕ) (t : Tick) → tick_of_two symbol price ≡ Some t → IsTick t
two_in symbol price t h = go (is_symbol symbol) refl h
  where
    go : (b : Bool) → is_symbol symbol ≡ b → cond b (tick_with symbol (number 1 1_000_000_000 price)) None ≡ Some t → IsTick t
    go true s h = with_in symbol (number 1 1_000_000_000 price) t s (λ n e. number_in 1 1_000_000_000 n price e) h
    go false s h = absurd cc

tick_in : (fs : Fields) (t : Tick) → tick_of fs ≡ Some t → IsTick t
tick_in (p ∷ q ∷ []) t h = two_in p q t h
tick_in _ t h = absurd cc

-- the ticks of a file are in form
pub file_in_form : (bytes : List ℕ) (ticks : List Tick) → IsTickFile bytes ticks → All IsTick ticks
file_in_form bytes ticks f = all_told tick_of IsTick tick_in f.2.0 ticks f.2.2
