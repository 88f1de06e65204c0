-- Which places are marked when a commit is handed to instances.
use Rattle.df_tables.proofs.Names.{◌≡◌, ℕ, zero, suc, ◌+◌, ◌≤◌, ◌<◌, ◌==◌, ◌||◌, Bool, true, false, not, if◌then◌else◌, List, [], ◌∷◌, length, map, refl, ap, ◌∙◌, arith, eq-eqb, ne_eqb, list_any-append, Pair, has_place, is_nil, places_by, places_from, pairs_of, Unit, or_from, or_right}

-- a place is one of the pairs' where they have a pair there
pub places_of : (q : ℕ) (ps : List Pair) → has_place (map (λ (p : Pair). p.0) ps) q ≡ not (is_nil (pairs_of q ps))
places_of q [] = refl
places_of q (p ∷ ps) =
    let rest = has_place (map (λ (r : Pair). r.0) ps) q in
    elim (p.0 == q) as (λ b. (b || rest) ≡ not (is_nil (if b then p ∷ pairs_of q ps else pairs_of q ps))) [ true ↦ refl | false ↦ places_of q ps ]

-- the places behind others are none of those
pub places_before : (q n : ℕ) (bs : List Unit) → q < n → has_place (places_from n bs) q ≡ false
places_before q n [] h = refl
places_before q n (b ∷ bs) h = or_from (n == q) _ (ne_eqb n q (λ e. omega (arith, h, e))) (places_before q (n + 1) bs (omega (arith, h)))

-- and each behind them is one
pub places_behind : (n i : ℕ) (bs : List Unit) → i < length bs → has_place (places_from n bs) (n + i) ≡ true
places_behind n i [] h = absurd (omega (arith, h))
places_behind n zero (b ∷ bs) h = ap (λ (t : Bool). t || has_place (places_from (n + 1) bs) (n + 0)) (eq-eqb n (n + 0) (omega arith))
places_behind n (suc i) (b ∷ bs) h =
    let z : n + suc i ≡ (n + 1) + i = omega arith in
    or_right (n == (n + suc i)) _ (ap (has_place (places_from (n + 1) bs)) z ∙ places_behind (n + 1) i bs (omega (arith, h)))

-- no place past all rows is one
pub places_past : (q n : ℕ) (bs : List Unit) → n + length bs ≤ q → has_place (places_from n bs) q ≡ false
places_past q n [] h = refl
places_past q n (b ∷ bs) h = or_from (n == q) _ (ne_eqb n q (λ e. omega (arith, h, e))) (places_past q (n + 1) bs (omega (arith, h)))

pub places_both : (n q : ℕ) (ps : List Pair) (bs : List Unit) → has_place (places_by n ps bs) q ≡ (not (is_nil (pairs_of q ps)) || has_place (places_from n bs) q)
places_both n q ps bs =
    list_any-append (λ (j : ℕ). j == q) (map (λ (p : Pair). p.0) ps) (places_from n bs)
    ∙ ap (λ (b : Bool). b || has_place (places_from n bs) q) (places_of q ps)
