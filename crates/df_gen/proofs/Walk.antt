-- Ticks by two words each.
use Rattle.std.proofs.Common.{◌≡◌, ℕ, zero, suc, ◌+◌, ◌-◌, ◌*◌, ◌%◌, ◌<◌, ◌≤◌, Bool, true, false, cond, List, [], ◌∷◌, ◌++◌, length, refl, sym, ap, ◌∙◌, append_assoc, ap₂, arith, min, max, ◌==◌, codes}
use Rattle.std.specs.Prelude.{All, slice_index}
use Rattle.std.proofs.lemmas.Int.{ints}
use Rattle.std.proofs.lemmas.List.{append-nil}
use Rattle.rand_core.specs.Steps.{first_words}
use Rattle.rand_pcg.specs.Lcg.{Lcg}
use Rattle.rand_pcg.specs.Pcg.{pcg32}
use Rattle.df_records.specs.Fields.{is_symbol}
use Rattle.df_ticks.specs.TickFile.{IsTick}
use Rattle.df_ticks.specs.declared.tick.Tick.{Tick}
use Rattle.df_gen.specs.Generated.{symbol_at, tick_at, prices_after, ticks_of}

-- twice one more is two more
twice : (n i : ℕ) → i < n → 2 * (n - i) ≡ suc (suc (2 * (n - (i + 1))))
twice n i lt = omega arith

two_words : (k : ℕ) (g : Lcg) → first_words pcg32 (suc (suc k)) g ≡ (pcg32 g).0 ∷ (pcg32 (pcg32 g).1).0 ∷ first_words pcg32 k (pcg32 (pcg32 g).1).1
unfolding first_words
two_words k g = refl

-- what is made so far and what is to come is all, also after one more
pub one_more : (items : List Tick) (prices : List ℕ) (g : Lcg) (n i : ℕ) → i < n
    → (items ++ tick_at prices (pcg32 g).0 (pcg32 (pcg32 g).1).0 ∷ [])
    ++ ticks_of (prices_after prices (pcg32 g).0 (pcg32 (pcg32 g).1).0) (first_words pcg32 (2 * (n - (i + 1))) (pcg32 (pcg32 g).1).1)
    ≡ items ++ ticks_of prices (first_words pcg32 (2 * (n - i)) g)
one_more items prices g n i lt =
    append_assoc items (tick_at prices (pcg32 g).0 (pcg32 (pcg32 g).1).0 ∷ [])
    (ticks_of (prices_after prices (pcg32 g).0 (pcg32 (pcg32 g).1).0) (first_words pcg32 (2 * (n - (i + 1))) (pcg32 (pcg32 g).1).1))
    ∙ ap (λ words. items ++ ticks_of prices words) (sym (two_words (2 * (n - (i + 1))) g))
    ∙ ap (λ k. items ++ ticks_of prices (first_words pcg32 k g)) (sym (twice n i lt))

-- each tick is in form
symbol_is : (k : ℕ) → is_symbol (symbol_at k) ≡ true
symbol_is k = go (k == 0) (k == 1) (k == 2)
  where
    go : (a b c : Bool) → is_symbol (cond a (codes "AAA") (cond b (codes "BBB") (cond c (codes "CCC") (codes "DDD")))) ≡ true
    go true b c = refl
    go false true c = refl
    go false false true = refl
    go false false false = refl

bounded : (n : ℕ) → (1 ≤ min (max n 1) 1_000_000) × (min (max n 1) 1_000_000 ≤ 1_000_000_000)
bounded n = (omega arith, omega arith)

tick_is : (prices : List ℕ) (v w : ℕ) → IsTick (tick_at prices v w)
tick_is prices v w =
    let b = bounded (slice_index prices (v % 4) + w % 201 - 100) in
    record { symbol = symbol_is (v % 4); price_from = omega (arith, ints, b.0); price_to = omega (arith, ints, b.1) }

all_cons : (t : Tick) (ts : List Tick) → IsTick t → All IsTick ts → All IsTick (t ∷ ts)
all_cons t ts h all zero d lt = h
all_cons t ts h all (suc k) d lt = all k d (omega arith)

pub all_in_form : (prices words : List ℕ) → All IsTick (ticks_of prices words)
all_in_form prices [] = λ k d lt. absurd (omega arith)
all_in_form prices (v ∷ []) = λ k d lt. absurd (omega arith)
all_in_form prices (v ∷ w ∷ words) = all_cons (tick_at prices v w) (ticks_of (prices_after prices v w) words) (tick_is prices v w) (all_in_form (prices_after prices v w) words)

-- so many ticks
pub count_is : (n : ℕ) (prices : List ℕ) (g : Lcg) → length (ticks_of prices (first_words pcg32 (2 * n) g)) ≡ n
unfolding first_words
count_is zero prices g = refl
count_is (suc n) prices g =
    let twice_suc : 2 * suc n ≡ suc (suc (2 * n)) = omega arith in
    ap (λ k. length (ticks_of prices (first_words pcg32 k g))) twice_suc
    ∙ ap suc (count_is n (prices_after prices (pcg32 g).0 (pcg32 (pcg32 g).1).0) (pcg32 (pcg32 g).1).1)

-- the step of the walk, by what it makes
pub stepped : (old new : List Tick) (t : Tick) (prices next : List ℕ) (g h : Lcg) (n i : ℕ) (all : List Tick) → i < n → new ≡ old ++ t ∷ []
    → t ≡ tick_at prices (pcg32 g).0 (pcg32 (pcg32 g).1).0 → next ≡ prices_after prices (pcg32 g).0 (pcg32 (pcg32 g).1).0 → h ≡ (pcg32 (pcg32 g).1).1
    → old ++ ticks_of prices (first_words pcg32 (2 * (n - i)) g) ≡ all → new ++ ticks_of next (first_words pcg32 (2 * (n - (i + 1))) h) ≡ all
stepped old new t prices next g h n i all lt en et ep eh inv =
    ap₂ (λ (a b : List Tick). a ++ b) (en ∙ ap (λ (x : Tick). old ++ x ∷ []) et)
    (ap₂ (λ (p : List ℕ) (q : Lcg). ticks_of p (first_words pcg32 (2 * (n - (i + 1))) q)) ep eh)
    ∙ one_more old prices g n i lt ∙ inv

-- and its end
pub ended : (items all : List Tick) (prices : List ℕ) (g : Lcg) (n i : ℕ) → n ≤ i → items ++ ticks_of prices (first_words pcg32 (2 * (n - i)) g) ≡ all → items ≡ all
unfolding first_words
ended items all prices g n i le inv =
    let none : 2 * (n - i) ≡ 0 = omega arith in
    sym (append-nil items) ∙ ap (λ k. items ++ ticks_of prices (first_words pcg32 k g)) (sym none) ∙ inv
