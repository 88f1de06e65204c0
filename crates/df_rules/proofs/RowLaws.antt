-- The rows of the call table keep the laws.
use Rattle.df_rules.proofs.Names.{◌≡◌, ℕ, zero, suc, List, [], ◌∷◌, Bool, true, false, refl, ap, subst, cond, Some, None, ◌==◌, slice_get, eqb-true, Clause, flows_to, Label, Privilege, Laws, rows, roots, root_of, flows_to-refl, flows_to-join_left, flows_to-join_right, fixes, fixed_of, readable_at, makes, child, child_input, OwnState, Fixed, after, changed, half_changed, is_accepted, Call, SubscribeManaged, Get, ChangeInOut, Instantiate, Effect, UnitName, Reply}
use Rattle.df_unit.proofs.KeptRows.{reads_changed}

-- the reply and the effect of an answer

pub first_is : {A B : Type 0} (p q : A) (x y : B) → (let z : A × B = (p, x) in z) ≡ (q, y) → p ≡ q
first_is {A} {B} p q x y e = ap (λ (z : A × B). z.0) e

pub second_is : {A B : Type 0} (p q : A) (x y : B) → (let z : A × B = (p, x) in z) ≡ (q, y) → x ≡ y
second_is {A} {B} p q x y e = ap (λ (z : A × B). z.1) e

-- contamination

grows_changed : (u : UnitName) (st : OwnState) (c : Call) (f : Effect) → flows_to st.contamination (changed u st c f).contamination ≡ true
grows_changed u st (ChangeInOut half act t) f = flows_to-join_left st.contamination (half_changed half act t st.input)
grows_changed u st Get Effect.Nothing = flows_to-refl st.contamination
grows_changed u st Get (Effect.Commit k) = flows_to-refl st.contamination
grows_changed u st Get (Effect.Given d) = flows_to-refl st.contamination
grows_changed u st _ f = flows_to-refl st.contamination

pub grows_after : (u : UnitName) (st : OwnState) (c : Call) (r : Reply) (f : Effect) → flows_to st.contamination (after u st c r f).contamination ≡ true
grows_after u st c r f = go (is_accepted r)
  where
    go : (b : Bool) → flows_to st.contamination (cond b (changed u st c f) st).contamination ≡ true
    go true = grows_changed u st c f
    go false = flows_to-refl st.contamination

reads_after : (u : UnitName) (st : OwnState) (c : Call) (r : Reply) (f : Effect) → flows_to st.input st.contamination ≡ true → flows_to (after u st c r f).input (after u st c r f).contamination ≡ true
reads_after u st c r f h = go (is_accepted r)
  where
    go : (b : Bool) → flows_to (cond b (changed u st c f) st).input (cond b (changed u st c f) st).contamination ≡ true
    go true = reads_changed u st c f h
    go false = h

-- the start
pub roots_are : (P : OwnState → Type 0) → ((r : Label × List Privilege) → P (root_of r)) → (start : List (Label × List Privilege)) (k : ℕ) (st : OwnState) → slice_get (roots start) k ≡ Some st → P st
roots_are P h [] k st e = absurd (let z : ⊥ = cc in z)
roots_are P h (r ∷ rs) zero st e = subst P (let z : root_of r ≡ st = cc in z) (h r)
roots_are P h (r ∷ rs) (suc k) st e = roots_are P h rs k st e

-- what a managed subscription keeps
fixes_is : (st : OwnState) (n : ℕ) (c : Call) (r : Reply) (f : Fixed) → fixes st n c r ≡ Some f → (filter : List Clause) × (fixed_of st filter ≡ f)
fixes_is st n (SubscribeManaged filter) (Reply.Sub m) f h = go (m == n) h
  where
    go : (b : Bool) → cond b (Some (fixed_of st filter)) None ≡ Some f → (filter : List Clause) × (fixed_of st filter ≡ f)
    go true h = (filter, (let z : fixed_of st filter ≡ f = cc in z))
    go false h = absurd (let z : ⊥ = cc in z)
fixes_is st n (SubscribeManaged filter) _ f h = absurd (let z : ⊥ = cc in z)
fixes_is st n _ r f h = absurd (let z : ⊥ = cc in z)

pub by_fixed : (P : Fixed → Type 0) (st : OwnState) (n : ℕ) (c : Call) (r : Reply) (f : Fixed) → fixes st n c r ≡ Some f → ((filter : List Clause) → P (fixed_of st filter)) → P f
by_fixed P st n c r f h each = let i = fixes_is st n c r f h in subst P i.1 (each i.0)

-- the unit that a unit makes, and the call and the reply that make it
pub makes_is : (st : OwnState) (k : ℕ) (c : Call) (r : Reply) (ch : OwnState) → makes st k c r ≡ Some ch → (s : List (List ℕ)) × (privileges : List Privilege) × (c ≡ Instantiate s privileges) × (r ≡ Reply.Unit k) × (child st s privileges ≡ ch)
makes_is st k (Instantiate s privileges) (Reply.Unit m) ch h = go (m == k) refl h
  where
    go : (b : Bool) → (m == k) ≡ b → cond b (Some (child st s privileges)) None ≡ Some ch → (t : List (List ℕ)) × (ps : List Privilege) × (Instantiate s privileges ≡ Instantiate t ps) × (Reply.Unit m ≡ Reply.Unit k) × (child st t ps ≡ ch)
    go true e h = (s, privileges, refl, ap (λ (n : ℕ). Reply.Unit n) (eqb-true m k e), (let z : child st s privileges ≡ ch = cc in z))
    go false e h = absurd (let z : ⊥ = cc in z)
makes_is st k (Instantiate s privileges) _ ch h = absurd (let z : ⊥ = cc in z)
makes_is st k _ r ch h = absurd (let z : ⊥ = cc in z)

pub by_child : (P : OwnState → Type 0) (st : OwnState) (k : ℕ) (c : Call) (r : Reply) (ch : OwnState) → makes st k c r ≡ Some ch → ((s : List (List ℕ)) (privileges : List Privilege) → P (child st s privileges)) → P ch
by_child P st k c r ch h each = let i = makes_is st k c r ch h in subst P i.4 (each i.0 i.1)

pub row_laws : (start : List (Label × List Privilege)) → Laws rows (roots start)
row_laws start = record {
  grows = grows_after;
  reads = reads_after;
  reads_first = λ k st e. roots_are (λ st. flows_to st.input st.contamination ≡ true) (λ r. flows_to-refl r.0) start k st e;
  fixes_contamination = λ st n c r f h. by_fixed (λ f. flows_to st.contamination f.contamination ≡ true) st n c r f h (λ filter. flows_to-refl st.contamination);
  begin_contamination = λ f t. flows_to-join_left f.contamination (readable_at f t);
  begin_readable = λ f t. flows_to-join_right f.contamination (readable_at f t);
  makes_contamination = λ st k c r ch h. by_child (λ ch. flows_to st.contamination ch.contamination ≡ true) st k c r ch h (λ s privileges. flows_to-join_left st.contamination (child_input st s));
  makes_reads = λ st k c r ch h. by_child (λ ch. flows_to ch.input ch.contamination ≡ true) st k c r ch h (λ s privileges. flows_to-join_right st.contamination (child_input st s));
}
