-- What joined and listed places contain.
use Rattle.std.proofs.Common.{◌≡◌, ℕ, zero, suc, ◌+◌, List, [], ◌∷◌, Option, Some, Bool, true, false, if◌then◌else◌, slice_get, refl, sym, subst, arith, inl, inr, ⊎_elim, ◌⊎◌}
use Rattle.std.specs.List.{Contains, flat_map}
use Rattle.std.proofs.lemmas.List.Elements.{Contains-append_cases, Contains-append_left, Contains-append_right}
use Rattle.df_index.specs.Listing.{is_first, places_from}
use Rattle.df_index.specs.declared.subscription.Subscription.{Subscription}

pub contains_first : {X : Type 0} (x : X) (xs : List X) → Contains (x ∷ xs) x
contains_first x xs = (0, omega arith, refl)

pub contains_later : {X : Type 0} (x y : X) (xs : List X) → Contains xs y → Contains (x ∷ xs) y
contains_later x y xs h = (suc h.0, omega (arith, h.1), h.2)

pub contains_cases : {X : Type 0} (x y : X) (xs : List X) → Contains (x ∷ xs) y → (x ≡ y) ⊎ Contains xs y
contains_cases x y xs (zero, l, e) = inl e
contains_cases x y xs (suc k, l, e) = inr (k, omega (arith, l), e)

-- where an element of a join comes from
pub record IsFrom {X A : Type 0} (f : X → List A) (xs : List X) (y : A) : Type 0 where
  pub piece : X
  pub among : Contains xs piece
  pub within : Contains (f piece) y

pub joined_from : {X A : Type 0} (f : X → List A) (xs : List X) (y : A) → Contains (flat_map f xs) y → IsFrom f xs y
joined_from f [] y (k, l, e) = absurd (omega (arith, l))
joined_from f (x ∷ xs) y h = ⊎_elim
    (λ a. record { piece = x; among = contains_first x xs; within = a })
    (λ b. let r = joined_from f xs y b in record { piece = r.piece; among = contains_later x r.piece xs r.among; within = r.within })
    (Contains-append_cases (f x) (flat_map f xs) y h)

pub joined_in : {X A : Type 0} (f : X → List A) (xs : List X) (x : X) (y : A) → Contains xs x → Contains (f x) y → Contains (flat_map f xs) y
joined_in f [] x y (k, l, e) h = absurd (omega (arith, l))
joined_in f (z ∷ xs) x y c h = ⊎_elim
    (λ e. Contains-append_left (f z) (flat_map f xs) y (subst (λ w. Contains (f w) y) (sym e) h))
    (λ d. Contains-append_right (f z) (flat_map f xs) y (joined_in f xs x y d h))
    (contains_cases z x xs c)

-- a place that is listed is that of a subscription with this first name
pub record IsListedAt {F : Type 0} (first : F → Option (List ℕ)) (name : List ℕ) (i : ℕ) (xs : List (Subscription F)) (k : ℕ) : Type 0 where
  pub step : ℕ
  pub place : k ≡ i + step
  pub subscription : Subscription F
  pub found : slice_get xs step ≡ Some subscription
  pub named : is_first (first subscription.filter) name ≡ true

pub listed_at : {F : Type 0} (first : F → Option (List ℕ)) (name : List ℕ) (i : ℕ) (xs : List (Subscription F)) (k : ℕ) → Contains (places_from first name i xs) k → IsListedAt first name i xs k
listed_at first name i [] k (j, l, e) = absurd (omega (arith, l))
listed_at first name i (x ∷ xs) k h = by (is_first (first x.filter) name) refl (λ d. listed_at first name (i + 1) xs k d) h
  where
    later : IsListedAt first name (i + 1) xs k → IsListedAt first name i (x ∷ xs) k
    later w = record { step = suc w.step; place = (let p = w.place in omega (arith, p)); subscription = w.subscription; found = w.found; named = w.named }

    by : (b : Bool) → is_first (first x.filter) name ≡ b → (Contains (places_from first name (i + 1) xs) k → IsListedAt first name (i + 1) xs k)
        → Contains (if b then i ∷ places_from first name (i + 1) xs else places_from first name (i + 1) xs) k → IsListedAt first name i (x ∷ xs) k
    by true e ih c = ⊎_elim
        (λ q. record { step = 0; place = omega (arith, q); subscription = x; found = refl; named = e })
        (λ d. later (ih d))
        (contains_cases i k (places_from first name (i + 1) xs) c)
    by false e ih c = later (ih c)

pub listed_in : {F : Type 0} (first : F → Option (List ℕ)) (name : List ℕ) (i : ℕ) (xs : List (Subscription F)) (j : ℕ) (s : Subscription F) → slice_get xs j ≡ Some s → is_first (first s.filter) name ≡ true → Contains (places_from first name i xs) (i + j)
listed_in first name i [] j s f e = absurd (let z : ⊥ = cc in z)
listed_in first name i (x ∷ xs) zero s f e =
    let same : x ≡ s = cc in
    let t : is_first (first x.filter) name ≡ true = subst (λ y. is_first (first y.filter) name ≡ true) (sym same) e in
    rw t (0, omega arith, omega arith)
listed_in first name i (x ∷ xs) (suc j) s f e = by (is_first (first x.filter) name) (subst (λ m. Contains (places_from first name (i + 1) xs) m) (omega arith) (listed_in first name (i + 1) xs j s f e))
  where
    by : (b : Bool) → Contains (places_from first name (i + 1) xs) (i + suc j) → Contains (if b then i ∷ places_from first name (i + 1) xs else places_from first name (i + 1) xs) (i + suc j)
    by true h = contains_later i (i + suc j) (places_from first name (i + 1) xs) h
    by false h = h
