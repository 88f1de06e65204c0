-- Rows that stand in the order of units are apart.
use Rattle.df_tables.proofs.Names.{◌≡◌, ℕ, zero, suc, ◌<◌, List, [], ◌∷◌, get_or, length, Some, refl, ap, subst, ◌∙◌, arith, tied_itself, is_eq, Less, Equal, IsBelow, same, unit_cmp, unit_cmp_ties, unit_cmp_total, UnitName, AreApart, place_by, IsInOrder, names_of, Unit}
use Rattle.df_unit.proofs.OrderFacts.{unit_cmp_exact}

below_at : (n : UnitName) (us : List Unit) (k : ℕ) (d : Unit) → IsBelow unit_cmp n (names_of us) → k < length us → unit_cmp n (get_or us k d).local.unit ≡ Less
below_at n [] k d b h = absurd (omega arith)
below_at n (u ∷ us) zero d b h = b.0
below_at n (u ∷ us) (suc k) d b h = below_at n us k d b.1 (omega arith)

-- the row that is the unit's is the first that is
found_at : (a : UnitName) (us : List Unit) (k : ℕ) (d : Unit) → IsInOrder us → k < length us → unit_cmp (get_or us k d).local.unit a ≡ Equal → place_by (λ u. same u.local.unit a) us ≡ Some k
found_at a [] k d order h e = absurd (omega arith)
found_at a (u ∷ us) zero d order h e = rw (unit_cmp_ties u.local.unit a ∙ ap is_eq e) refl
found_at a (u ∷ us) (suc k) d order h e =
    let this : (get_or us k d).local.unit ≡ a = unit_cmp_exact.exact (get_or us k d).local.unit a e in
    let lower : unit_cmp u.local.unit a ≡ Less = subst (λ n. unit_cmp u.local.unit n ≡ Less) this (below_at u.local.unit us k d order.0 (omega arith)) in
    rw (unit_cmp_ties u.local.unit a ∙ ap is_eq lower, found_at a us k d order.1 (omega arith) e) refl

pub ordered_apart : (us : List Unit) → IsInOrder us → AreApart us
ordered_apart us order k d within = found_at (get_or us k d).local.unit us k d order within (tied_itself unit_cmp_total (get_or us k d).local.unit)
