-- Pairs that were handed, and how they are found.
use Rattle.std.proofs.Common.{◌≡◌, ℕ, ◌<◌, List, Bool, true, false, ◌&&◌, ◌||◌, ◌==◌, Result, Ok, Err, length, nat_eq, nat_lt, get_or, refl, ap, sym, subst, ◌∙◌, arith}
use Rattle.std.specs.Cmp.{IsEquivalence, IsTotalOrder, nat_cmp_total, nat_eq_equiv, on_total, then_total, unsigned_ties}
use Rattle.std.specs.List.{Contains}
use Rattle.std.specs.List.Sorted.{IsBinarySearchResult, IsPartitionPoint, IsSearchInRange, IsSorted}
use Rattle.std.specs.Ordering.{eq_by_cmp, is_eq}
use Rattle.std.specs.Result.{is_ok}
use Rattle.std.specs.declared.cmp.Ordering.{Ordering}
use Rattle.std.specs.declared.cmp.Ordering.TheVariants.{Less, Greater}
use Rattle.std.proofs.lemmas.Cmp.{and_equiv, on_equiv}
use Rattle.std.proofs.lemmas.List.Folds.{Any-from_list_any, list_any-from_Any}
use Rattle.std.proofs.lemmas.List.Elements.{Contains-get_or}
use Rattle.std.proofs.lemmas.List.Sorted.{searchable_from_sorted}
use Rattle.df_index.specs.Due.{Pair, pair_cmp, has_pair}

pub or_comm : (a b : Bool) → (a || b) ≡ (b || a)
or_comm true true = refl
or_comm true false = refl
or_comm false true = refl
or_comm false false = refl

-- the order of pairs is total
pub pair_total : IsTotalOrder pair_cmp
pair_total = then_total (on_total (λ (p : Pair). p.0) nat_cmp_total) (on_total (λ (p : Pair). p.1) nat_cmp_total)

-- two pairs are one exactly where they are level
pub pair_ties : (p q : Pair) → (nat_eq p.0 q.0 && nat_eq p.1 q.1) ≡ eq_by_cmp pair_cmp p q
pair_ties p q = grind (arith, unsigned_ties p.0 q.0, unsigned_ties p.1 q.1)

-- pairs that are level are one
pub same_pair : (p q : Pair) → (nat_eq p.0 q.0 && nat_eq p.1 q.1) ≡ true → p ≡ q
same_pair (a, b) (c, d) e = let p : a ≡ c = grind (arith, e) in let q : b ≡ d = grind (arith, e) in cc

pub pair_equiv : IsEquivalence (λ (p q : Pair). nat_eq p.0 q.0 && nat_eq p.1 q.1)
pair_equiv = and_equiv (on_equiv (λ (p : Pair). p.0) nat_eq_equiv) (on_equiv (λ (p : Pair). p.1) nat_eq_equiv)

-- a binary search tells whether a pair is among those that ascend
pub is_ok-searched : (xs : List Pair) (p : Pair) (r : Result ℕ ℕ) → IsSorted pair_cmp xs → IsSearchInRange r (length xs) → IsBinarySearchResult (λ q. pair_cmp q p) xs r → is_ok r ≡ has_pair xs p
is_ok-searched xs p (Ok i) up within found = sym (list_any-from_Any (λ (q : Pair). (q.0 == p.0) && (q.1 == p.1)) xs (member.0, get_or xs i p, member.1, member.2, pair_ties (get_or xs i p) p ∙ ap is_eq (found p)))
  where
    member : Contains xs (get_or xs i p)
    member = Contains-get_or xs i p within
is_ok-searched xs p (Err i) up within found = by (has_pair xs p) refl
  where
    point : IsPartitionPoint (λ q. pair_cmp q p ≡ Less) (λ q. pair_cmp q p ≡ Greater) xs i
    point = found (searchable_from_sorted pair_total (λ (q : Pair). q) xs p up)

    level : (q : Pair) (o : Ordering) → pair_cmp q p ≡ o → (q.0 == p.0) && (q.1 == p.1) ≡ true → is_eq o ≡ true
    level q o c e = ap is_eq (sym c) ∙ sym (pair_ties q p) ∙ e

    apart : (k : ℕ) (q : Pair) → k < length xs → get_or xs k q ≡ q → (q.0 == p.0) && (q.1 == p.1) ≡ true → ⊥
    apart k q l at e = side (nat_lt k i) refl
      where
        side : (b : Bool) → nat_lt k i ≡ b → ⊥
        side true h = let z : is_eq Less ≡ true = level q Less (subst (λ (w : Pair). pair_cmp w p ≡ Less) at (point.0 k q (omega arith) (grind (arith, h)))) e in (let w : ⊥ = cc in w)
        side false h = let z : is_eq Greater ≡ true = level q Greater (subst (λ (w : Pair). pair_cmp w p ≡ Greater) at (point.1 k q (grind (arith, h)) l)) e in (let w : ⊥ = cc in w)

    by : (b : Bool) → has_pair xs p ≡ b → false ≡ b
    by true e = let a = Any-from_list_any (λ (q : Pair). (q.0 == p.0) && (q.1 == p.1)) xs e in absurd (apart a.0 a.1 a.2 a.3 a.4)
    by false e = refl
