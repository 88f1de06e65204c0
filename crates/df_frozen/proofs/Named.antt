-- Entries as they are kept and as they are seen.
use Rattle.std.proofs.Common.{◌≡◌, ℕ, zero, suc, ◌<◌, List, [], ◌∷◌, ◌++◌, map, get_or, set, length, arith, refl, ap}
use Rattle.std.specs.List.{insert}
use Rattle.df_frozen.specs.Plain.{Plain, item, from_list, from_pairs}
use Rattle.df_frozen.specs.Entries.{names, values, IsBelow, IsAscending}
use Rattle.df_frozen.specs.code.Inner.{values_of}
use Rattle.df_frozen.specs.Value.{named}
use Rattle.df_frozen.specs.declared.value.Value.{Value}

-- entries that are seen have the names that are kept
pub names-named : (es : List (List ℕ × Value)) → names (map named es) ≡ names es
names-named [] = refl
names-named (e ∷ es) = ap (λ l. e.0 ∷ l) (names-named es)

-- the values of entries, and of their list
pub values_of-from_pairs : (es : List (List ℕ × Plain)) → values_of (from_pairs es) ≡ from_list (values es)
values_of-from_pairs [] = refl
values_of-from_pairs (e ∷ es) = ap (λ l. item e.1 l) (values_of-from_pairs es)

-- another value under a name changes no name
pub names-set : (es : List (List ℕ × Value)) (i : ℕ) (e d : List ℕ × Value) → i < length es → e.0 ≡ (get_or es i d).0 → names (set es i e) ≡ names es
names-set [] i e d h n = refl
names-set (x ∷ es) zero e d h n = ap (λ k. k ∷ names es) n
names-set (x ∷ es) (suc i) e d h n = ap (λ l. x.0 ∷ l) (names-set es i e d (omega (arith, h)) n)

-- what is seen of one more, put before an index
pub map-insert : {A B : Type 0} (f : A → B) (xs : List A) (i : ℕ) (x : A) → map f (insert xs i x) ≡ insert (map f xs) i (f x)
map-insert f [] zero x = refl
map-insert f [] (suc i) x = refl
map-insert f (y ∷ xs) zero x = refl
map-insert f (y ∷ xs) (suc i) x = ap (λ l. f y ∷ l) (map-insert f xs i x)

-- what is seen of one more
pub map-push : {A B : Type 0} (f : A → B) (xs : List A) (x : A) → map f (xs ++ x ∷ []) ≡ map f xs ++ f x ∷ []
map-push f [] x = refl
map-push f (y ∷ xs) x = ap (λ l. f y ∷ l) (map-push f xs x)

-- what is below all is below all but the last
IsBelow-before : (k : List ℕ) (ns : List (List ℕ)) (n : List ℕ) → IsBelow k (ns ++ n ∷ []) → IsBelow k ns
IsBelow-before k [] n b = tt
IsBelow-before k (m ∷ ns) n b = (b.0, IsBelow-before k ns n b.1)

-- names ascend without the last
pub IsAscending-before : (ns : List (List ℕ)) (n : List ℕ) → IsAscending (ns ++ n ∷ []) → IsAscending ns
IsAscending-before [] n s = tt
IsAscending-before (m ∷ ns) n s = (IsBelow-before m ns n s.0, IsAscending-before ns n s.1)
