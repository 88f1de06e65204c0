-- In the beginning the tables agree with the empty journal.
use Rattle.df_tables.proofs.Names.{◌≡◌, ℕ, zero, suc, ◌+◌, ◌==◌, List, [], ◌∷◌, Option, Some, None, Bool, true, false, if◌then◌else◌, map, slice_get, refl, ap, sym, subst, ◌∙◌, arith, eq-eqb, nat_eq, All, All-cons, All-nil, Pair, Label, Privilege, deliveries, was_handed, own, rows, roots, root_of, same, UnitName, Root, Managed, EventName, Agrees, IsSeat, is_marked, subscribed_at, event_place, IsCalm, find, first_row, place_of, rows_from, Unit, and-true, and-false, ne_eqb}

abbrev Starts : Type 0
Starts = List (Label × List Privilege)

managed_none : (o : List ℕ) (n : ℕ) (t : List (List ℕ)) (k : ℕ) (rs : Starts) → find (Managed o n t) (rows_from k rs) ≡ None
managed_none o n t k [] = refl
managed_none o n t k (r ∷ rs) = managed_none o n t (k + 1) rs

-- a root's path has one number
long_none : (j m : ℕ) (path : List ℕ) (k : ℕ) (rs : Starts) → find (Root (j ∷ m ∷ path)) (rows_from k rs) ≡ None
long_none j m path k [] = refl
long_none j m path k (r ∷ rs) =
    ap (λ (b : Bool). if b then Some (first_row k r) else find (Root (j ∷ m ∷ path)) (rows_from (k + 1) rs)) (and-false (nat_eq k j))
    ∙ long_none j m path (k + 1) rs

empty_none : (k : ℕ) (rs : Starts) → find (Root []) (rows_from k rs) ≡ None
empty_none k [] = refl
empty_none k (r ∷ rs) = empty_none (k + 1) rs

root_seat : (m k j : ℕ) (rs : Starts) → j ≡ k + m → IsSeat (Root (j ∷ [])) (slice_get (map root_of rs) m) [] (find (Root (j ∷ [])) (rows_from k rs))
root_seat zero k j [] e = refl
root_seat (suc m) k j [] e = refl
root_seat zero k j (r ∷ rs) e =
    let h : (k == j) ≡ true = eq-eqb k j (omega arith) in
    let test : same (first_row k r).local.unit (Root (j ∷ [])) ≡ true = and-true (k == j) ∙ h in
    subst (λ (b : Bool). IsSeat (Root (j ∷ [])) (Some (root_of r)) [] (if b then Some (first_row k r) else find (Root (j ∷ [])) (rows_from (k + 1) rs))) (sym test)
    (record { unit = ap (λ (n : ℕ). Root (n ∷ [])) (omega arith); own = refl; left = refl; taken = omega arith })
root_seat (suc m) k j (r ∷ rs) e =
    let h : (k == j) ≡ false = ne_eqb k j (λ z. omega (arith, e, z)) in
    let test : same (first_row k r).local.unit (Root (j ∷ [])) ≡ false = and-true (k == j) ∙ h in
    subst (λ (b : Bool). IsSeat (Root (j ∷ [])) (slice_get (map root_of rs) m) [] (if b then Some (first_row k r) else find (Root (j ∷ [])) (rows_from (k + 1) rs))) (sym test)
    (root_seat m (k + 1) j rs (omega arith))

seat_first : (rs : Starts) (n : UnitName) → IsSeat n (own rows (roots rs) [] n) (deliveries rows (roots rs) [] n) (find n (rows_from 0 rs))
seat_first rs (Root []) = subst (λ (p : Option Unit). IsSeat (Root []) None [] p) (sym (empty_none 0 rs)) refl
seat_first rs (Root (j ∷ [])) = root_seat j 0 j rs (omega arith)
seat_first rs (Root (j ∷ m ∷ path)) = subst (λ (p : Option Unit). IsSeat (Root (j ∷ m ∷ path)) None [] p) (sym (long_none j m path 0 rs)) refl
seat_first rs (Managed o n t) = subst (λ (p : Option Unit). IsSeat (Managed o n t) None [] p) (sym (managed_none o n t 0 rs)) refl

none_at : (p : Option ℕ) → subscribed_at p [] ≡ []
none_at None = refl
none_at (Some k) = refl

unmarked : (rs : Starts) (n : UnitName) (p : Option ℕ) (ev : EventName) (m : ℕ) → is_marked [] p (event_place ev []) m ≡ was_handed (deliveries rows (roots rs) [] n) ev m
unmarked rs (Root path) None ev m = refl
unmarked rs (Root path) (Some k) ev m = refl
unmarked rs (Managed o n t) None ev m = refl
unmarked rs (Managed o n t) (Some k) ev m = refl

pub agrees_first : (rs : Starts) → (ready : Option (ℕ × List Pair)) → Agrees rows (roots rs) [] (rows_from 0 rs) [] (record { enrolled = []; handed = []; ready = ready }) (record { kept = λ o n. None; told = λ event place. false })
agrees_first rs ready = record {
  legal = tt;
  seats = seat_first rs;
  subscribed = λ n. none_at (place_of n (rows_from 0 rs));
  marked = λ path ev m. unmarked rs (Root path) (place_of (Root path) (rows_from 0 rs)) ev m;
  parts = λ ev. refl;
  kept = λ o n. refl;
  told = λ o n t ev. refl;
}

-- in the beginning nothing is staged
pub calm_first : (k : ℕ) (rs : Starts) → All IsCalm (rows_from k rs)
calm_first k [] = All-nil IsCalm
calm_first k (r ∷ rs) = All-cons IsCalm (first_row k r) (rows_from (k + 1) rs) refl (calm_first (k + 1) rs)
