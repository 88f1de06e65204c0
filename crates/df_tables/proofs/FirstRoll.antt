-- The places of rows, seated one by one.
use Rattle.df_tables.proofs.Names.{◌≡◌, ℕ, suc, ◌+◌, ◌≤◌, Bool, true, false, if◌then◌else◌, List, [], ◌∷◌, drop, length, Option, Some, None, option_map, refl, ap, sym, ◌∙◌, arith, at_drop_all, option_or, same, UnitName, place_of, Unit}

-- the place of a unit's row, where the first row has the place k
abbrev pub place_from : ℕ → UnitName → List Unit → Option ℕ
place_from k n [] = None
place_from k n (u ∷ us) = if same u.local.unit n then Some k else place_from (k + 1) n us

place_from-counted : (k : ℕ) (n : UnitName) (us : List Unit) → place_from k n us ≡ option_map (λ j. k + j) (place_of n us)
place_from-counted k n [] = refl
place_from-counted k n (u ∷ us) = ap (λ (o : Option ℕ). if same u.local.unit n then Some k else o) (place_from-counted (k + 1) n us) ∙ by (same u.local.unit n) (place_of n us)
  where
    by : (b : Bool) (o : Option ℕ) → (if b then Some k else option_map (λ j. k + 1 + j) o) ≡ option_map (λ j. k + j) (if b then Some 0 else option_map suc o)
    by true o = ap Some (omega arith)
    by false None = refl
    by false (Some j) = ap Some (omega arith)

place_from-first : (n : UnitName) (us : List Unit) → place_from 0 n us ≡ place_of n us
place_from-first n us = place_from-counted 0 n us ∙ by (place_of n us)
  where
    by : (o : Option ℕ) → option_map (λ j. 0 + j) o ≡ o
    by None = refl
    by (Some j) = ap Some (omega arith)

-- when each row has its seat, the places told are those of all rows
pub all_told : (n : UnitName) (told : Option ℕ) (k : ℕ) (us : List Unit) → length us ≤ k → option_or told (place_from k n (drop k us)) ≡ place_from 0 n us → told ≡ place_of n us
all_told n told k us h e = alone told ∙ sym (at_drop_all (λ vs. option_or told (place_from k n vs)) us k h) ∙ e ∙ place_from-first n us
  where
    alone : (o : Option ℕ) → o ≡ option_or o None
    alone None = refl
    alone (Some j) = refl
