-- What is kept of units after one more, or another one.
use Rattle.std.proofs.Common.{◌≡◌, ℕ, suc, zero, ◌+◌, ◌<◌, List, [], ◌∷◌, ◌++◌, Bool, true, false, refl, sym, ◌∙◌, ap, subst, cond, Option, Some, None, length, slice_get, arith, length-append}
use Rattle.std.specs.Prelude.{slice_set, option_and_then}
use Rattle.std.specs.Option.{option_or}
use Rattle.df_kept.specs.Kept.{AreKept, IsPlace, kept_at}
use Rattle.df_roll.specs.Roll.{seat_of}
use Rattle.df_roll.specs.declared.seat.Seat.{Seat}
use Rattle.df_unit.specs.Name.{same}
use Rattle.df_unit.specs.declared.name.UnitName.{UnitName}
use Rattle.df_unit.proofs.SameFacts.{same_name-exact, same_name_decides}

same_self : (u : UnitName) → same u u ≡ true
same_self u = (same_name_decides u u).1 refl

get_more : {A : Type 0} (xs : List A) (v : A) → slice_get (xs ++ v ∷ []) (length xs) ≡ Some v
get_more [] v = refl
get_more (x ∷ xs) v = get_more xs v

get_before : {A : Type 0} (xs : List A) (v : A) (k : ℕ) → k < length xs → slice_get (xs ++ v ∷ []) k ≡ slice_get xs k
get_before [] v k h = absurd (let z : ⊥ = omega arith in z)
get_before (x ∷ xs) v zero h = refl
get_before (x ∷ xs) v (suc k) h = get_before xs v k (let z : k < length xs = omega arith in z)

get_set : {A : Type 0} (xs : List A) (k : ℕ) (v : A) → k < length xs → slice_get (slice_set xs k v) k ≡ Some v
get_set [] k v h = absurd (let z : ⊥ = omega arith in z)
get_set (x ∷ xs) zero v h = refl
get_set (x ∷ xs) (suc k) v h = get_set xs k v (let z : k < length xs = omega arith in z)

get_beside : {A : Type 0} (xs : List A) (k j : ℕ) (v : A) → (j ≡ k → ⊥) → slice_get (slice_set xs k v) j ≡ slice_get xs j
get_beside [] k j v h = refl
get_beside (x ∷ xs) zero zero v h = absurd (h refl)
get_beside (x ∷ xs) zero (suc j) v h = refl
get_beside (x ∷ xs) (suc k) zero v h = refl
get_beside (x ∷ xs) (suc k) (suc j) v h = get_beside xs k j v (λ e. h (ap suc e))

module _ {V : Type 0} (seats : List Seat) (values : List V) (kept : AreKept (seats, values)) (name : UnitName) (v : V) where
  -- another value in place of a unit's
  pub kept_set : (k : ℕ) → seat_of name seats ≡ Some k → (n : UnitName) → kept_at n (seats, slice_set values k v) ≡ cond (same name n) (Some v) (kept_at n (seats, values))
  kept_set k at n = go (same name n) refl (seat_of n seats) refl
    where
      go : (b : Bool) → same name n ≡ b → (p : Option ℕ) → seat_of n seats ≡ p → option_and_then (slice_get (slice_set values k v)) p ≡ cond b (Some v) (option_and_then (slice_get values) p)
      go true e p q =
          let here : seat_of n seats ≡ Some k = subst (λ (m : UnitName). seat_of m seats ≡ Some k) (same_name-exact name n e) at in
          ap (option_and_then (slice_get (slice_set values k v))) (sym q ∙ here) ∙ get_set values k v (kept.within name k at)
      go false e None q = refl
      go false e (Some j) q = get_beside values k j v (λ i. let two = kept.apart name n k at (q ∙ ap (λ (x : ℕ). Some x) i) in let z : ⊥ = cc in z)

  -- one more
  pub kept_more : (later : List Seat) → seat_of name seats ≡ None → ((n : UnitName) → seat_of n later ≡ option_or (seat_of n seats) (cond (same name n) (Some (length values)) None)) →
      (n : UnitName) → kept_at n (later, values ++ v ∷ []) ≡ cond (same name n) (Some v) (kept_at n (seats, values))
  kept_more later none seat n = ap (option_and_then (slice_get (values ++ v ∷ []))) (seat n) ∙ go (same name n) refl (seat_of n seats) refl
    where
      go : (b : Bool) → same name n ≡ b → (p : Option ℕ) → seat_of n seats ≡ p →
          option_and_then (slice_get (values ++ v ∷ [])) (option_or p (cond b (Some (length values)) None)) ≡ cond b (Some v) (option_and_then (slice_get values) p)
      go true e None q = get_more values v
      go true e (Some j) q =
          let here : seat_of n seats ≡ None = subst (λ (m : UnitName). seat_of m seats ≡ None) (same_name-exact name n e) none in
          absurd (let z : ⊥ = cc in z)
      go false e None q = refl
      go false e (Some j) q = get_before values v j (kept.within n j q)

  -- the place of what is kept last
  pub place_more : (later : List Seat) → seat_of name seats ≡ None → ((n : UnitName) → seat_of n later ≡ option_or (seat_of n seats) (cond (same name n) (Some (length values)) None)) →
      IsPlace name (length values) (later, values ++ v ∷ [])
  place_more later none seat = record {
    seat = seat name ∙ ap (λ (p : Option ℕ). option_or p (cond (same name name) (Some (length values)) None)) none
        ∙ ap (λ (b : Bool). option_or None (cond b (Some (length values)) None)) (same_self name);
    within = (let z : length values < length (values ++ v ∷ []) = omega (arith, length-append values (v ∷ [])) in z);
  }

  pub more_kept : (later : List Seat) → ((n : UnitName) → seat_of n later ≡ option_or (seat_of n seats) (cond (same name n) (Some (length values)) None)) → AreKept (later, values ++ v ∷ [])
  more_kept later seat = record {
    within = λ n k h. let long = length-append values (v ∷ []) in within n k (same name n) (seat_of n seats) refl (sym (seat n) ∙ h);
    apart = λ n m k h g. apart n m k (same name n) refl (same name m) refl (seat_of n seats) refl (seat_of m seats) refl (sym (seat n) ∙ h) (sym (seat m) ∙ g);
  }
    where
      within : (n : UnitName) (k : ℕ) (b : Bool) (p : Option ℕ) → seat_of n seats ≡ p → option_or p (cond b (Some (length values)) None) ≡ Some k → k < length (values ++ v ∷ [])
      within n k true None q h = let i : length values ≡ k = cc in omega (arith, length-append values (v ∷ []))
      within n k false None q h = absurd (let z : ⊥ = cc in z)
      within n k b (Some j) q h = let i : j ≡ k = cc in let few = kept.within n j q in omega (arith, length-append values (v ∷ []))

      apart : (n m : UnitName) (k : ℕ) (b : Bool) → same name n ≡ b → (d : Bool) → same name m ≡ d → (p : Option ℕ) → seat_of n seats ≡ p → (r : Option ℕ) → seat_of m seats ≡ r →
          option_or p (cond b (Some (length values)) None) ≡ Some k → option_or r (cond d (Some (length values)) None) ≡ Some k → same n m ≡ true
      apart n m k true e true f None q None s h g =
          subst (λ (x : UnitName). same x m ≡ true) (same_name-exact name n e) f
      apart n m k false e d f None q r s h g = absurd (let z : ⊥ = cc in z)
      apart n m k b e false f p q None s h g = absurd (let z : ⊥ = cc in z)
      apart n m k true e d f None q (Some i) s h g =
          let few = kept.within m i s in let x : length values ≡ k = cc in let y : i ≡ k = cc in absurd (let z : ⊥ = omega arith in z)
      apart n m k b e true f (Some j) q None s h g =
          let few = kept.within n j q in let x : length values ≡ k = cc in let y : j ≡ k = cc in absurd (let z : ⊥ = omega arith in z)
      apart n m k b e d f (Some j) q (Some i) s h g =
          let x : j ≡ k = cc in let y : i ≡ k = cc in
          kept.apart n m k (q ∙ ap (λ (w : ℕ). Some w) x) (s ∙ ap (λ (w : ℕ). Some w) y)
