-- Tables of slots, and what changes in them.
use Rattle.df_tables.proofs.Names.{◌≡◌, ℕ, zero, suc, ◌≤◌, Bool, true, false, if◌then◌else◌, List, [], ◌∷◌, ◌++◌, length, set, Option, Some, None, refl, ap, sym, ◌∙◌, get_or_past, same_Some, Vec, option_and_then, Near, slot, slot_in}
use Rattle.std.proofs.Math.Dec.{eqb-zero-suc, eqb-suc-zero, eqb-suc-suc}
use Rattle.std.specs.Prelude.{◌==◌, slice_get}

-- no slot is behind the last
pub slot_past : (near : Near) (r n : ℕ) (v : Vec (Option ℕ)) → slice_get near r ≡ Some v → length v.items ≤ n → slot_in near r n ≡ None
slot_past near r n v h le = ap (option_and_then (λ (slots : Vec (Option ℕ)). slot slots.items n)) h ∙ get_or_past v.items n None le

-- nor in a table that isn't there
pub slot_nowhere : (near : Near) (r n : ℕ) → slice_get near r ≡ None → slot_in near r n ≡ None
slot_nowhere near r n h = ap (option_and_then (λ (slots : Vec (Option ℕ)). slot slots.items n)) h

-- one more table that is empty has no place
pub slot_push : (near : Near) (v : Vec (Option ℕ)) → v.items ≡ [] → (r n : ℕ) → slot_in (near ++ v ∷ []) r n ≡ slot_in near r n
slot_push [] v e zero n = ap (λ (l : List (Option ℕ)). slot l n) e
slot_push [] v e (suc r) n = refl
slot_push (x ∷ xs) v e zero n = refl
slot_push (x ∷ xs) v e (suc r) n = slot_push xs v e r n

-- another table in place of one
pub slot_set : (near : Near) (r : ℕ) (v w : Vec (Option ℕ)) (g : ℕ → Option ℕ → Option ℕ) → slice_get near r ≡ Some v →
    ((n : ℕ) → slot w.items n ≡ g n (slot v.items n)) →
    (s m : ℕ) → slot_in (set near r w) s m ≡ (if r == s then g m (slot_in near s m) else slot_in near s m)
slot_set [] r v w g h e s m = absurd (cc)
slot_set (x ∷ xs) zero v w g h e zero m = e m ∙ ap (λ (t : Vec (Option ℕ)). g m (slot t.items m)) (sym (same_Some x v h))
slot_set (x ∷ xs) zero v w g h e (suc s) m = ap (λ (b : Bool). if b then g m (slot_in xs s m) else slot_in xs s m) (sym (eqb-zero-suc s))
slot_set (x ∷ xs) (suc r) v w g h e zero m = ap (λ (b : Bool). if b then g m (slot x.items m) else slot x.items m) (sym (eqb-suc-zero r))
slot_set (x ∷ xs) (suc r) v w g h e (suc s) m =
    slot_set xs r v w g h e s m ∙ ap (λ (b : Bool). if b then g m (slot_in xs s m) else slot_in xs s m) (sym (eqb-suc-suc r s))

-- and where its slots are the same, so are all
pub slot_same : (near : Near) (r : ℕ) (v w : Vec (Option ℕ)) → slice_get near r ≡ Some v →
    ((n : ℕ) → slot w.items n ≡ slot v.items n) → (s m : ℕ) → slot_in (set near r w) s m ≡ slot_in near s m
slot_same near r v w h e s m = slot_set near r v w (λ i o. o) h e s m ∙ by (r == s) (slot_in near s m)
  where
    by : (b : Bool) (o : Option ℕ) → (if b then o else o) ≡ o
    by true o = refl
    by false o = refl
