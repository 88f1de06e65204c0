-- The order of the rows, in the beginning and after an entry.
use Rattle.df_tables.proofs.Names.{◌≡◌, ℕ, ◌+◌, ◌<◌, List, [], ◌∷◌, Bool, true, false, if◌then◌else◌, get_or, length, map, refl, ap, sym, ◌∙◌, arith, length-map, nat_cmp_is, ordering_then, Ordering, Less, Equal, IsBelow, Label, Privilege, same, unit_cmp, UnitName, Root, seat_of, Seat, AreApart, IsRollOf, IsInOrder, moved_at, names_of, place_of, rows_from, Unit}
use Rattle.std.proofs.Math.ListN.{get_or-map}
use Rattle.df_tables.proofs.Seats.{place_of-names}

-- no change of rows that keeps their names changes the names

pub names-map : (g : Unit → Unit) → ((u : Unit) → (g u).local.unit ≡ u.local.unit) → (us : List Unit) → names_of (map g us) ≡ names_of us
names-map g kept [] = refl
names-map g kept (u ∷ us) = let first = kept u in let rest = names-map g kept us in cc

pub names-moved : (a : UnitName) (g : Unit → Unit) → ((u : Unit) → (g u).local.unit ≡ u.local.unit) → (us : List Unit) → names_of (moved_at a g us) ≡ names_of us
names-moved a g kept [] = refl
names-moved a g kept (u ∷ us) = by (same u.local.unit a) (names-moved a g kept us)
  where
    by : (b : Bool) → names_of (moved_at a g us) ≡ names_of us → names_of (if b then g u ∷ us else u ∷ moved_at a g us) ≡ u.local.unit ∷ names_of us
    by true rest = ap (λ (n : UnitName). n ∷ names_of us) (kept u)
    by false rest = ap (λ (ns : List UnitName). u.local.unit ∷ ns) rest

pub same_length : (us us' : List Unit) → names_of us ≡ names_of us' → length us ≡ length us'
same_length us us' e = sym (length-map us (λ (u : Unit). u.local.unit)) ∙ ap length e ∙ length-map us' (λ (u : Unit). u.local.unit)

-- so no two rows come to be one unit's

unit_like : (us us' : List Unit) → names_of us' ≡ names_of us → (k : ℕ) (d : Unit) → (get_or us' k d).local.unit ≡ (get_or us k d).local.unit
unit_like us us' e k d = sym (get_or-map (λ (u : Unit). u.local.unit) us' k d) ∙ ap (λ (ns : List UnitName). get_or ns k d.local.unit) e ∙ get_or-map (λ (u : Unit). u.local.unit) us k d

pub apart_like : (us us' : List Unit) → names_of us' ≡ names_of us → AreApart us → AreApart us'
apart_like us us' e apart k d within =
    let size : length us' ≡ length us = sym (length-map us' (λ (u : Unit). u.local.unit)) ∙ ap length e ∙ length-map us (λ (u : Unit). u.local.unit) in
    ap (λ (n : UnitName). place_of n us') (unit_like us us' e k d)
    ∙ place_of-names (get_or us k d).local.unit us us' e
    ∙ apart k d (omega (arith, size, within))

-- and the roll is theirs
pub roll_like : (roll roll' : List Seat) (us us' : List Unit) → roll' ≡ roll → names_of us' ≡ names_of us → IsRollOf roll us → IsRollOf roll' us'
roll_like roll roll' us us' same e are n = ap (seat_of n) same ∙ are n ∙ sym (place_of-names n us us' e)

-- roots stand by their numbers

root_below : (j k : ℕ) → j < k → unit_cmp (Root (j ∷ [])) (Root (k ∷ [])) ≡ Less
root_below j k h = ap (λ (o : Ordering). ordering_then o Equal) (sym (nat_cmp_is j k Less h))

below_rows : (j k : ℕ) (rs : List (Label × List Privilege)) → j < k → IsBelow unit_cmp (Root (j ∷ [])) (names_of (rows_from k rs))
below_rows j k [] h = tt
below_rows j k (r ∷ rs) h = (root_below j k h, below_rows j (k + 1) rs (omega arith))

pub order_first : (k : ℕ) (rs : List (Label × List Privilege)) → IsInOrder (rows_from k rs)
order_first k [] = tt
order_first k (r ∷ rs) = (below_rows k (k + 1) rs (omega arith), order_first (k + 1) rs)
