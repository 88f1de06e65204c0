-- What is kept of units is right, as a machine goes over a journal.
use Rattle.std.proofs.Common.{◌≡◌, ◌⊎◌, inl, inr, ℕ, zero, suc, List, [], ◌∷◌, Bool, true, false, refl, sym, ◌∙◌, ap, subst, Option, Some, None}
use Rattle.std.specs.Prelude.{◌||◌, slice_get}
use Rattle.std.specs.BTreeMap.{BTreeMap, get}
use Rattle.std.specs.List.{list_any}
use Rattle.std.proofs.lemmas.Bool.{cases_eq}
use Rattle.df_machine.specs.Journal.{State}
use Rattle.df_unit.proofs.SameFacts.{same_name-exact}
use Rattle.df_unit.specs.Name.{same}
use Rattle.df_unit.specs.UnitOrder.{unit_cmp}
use Rattle.df_unit.specs.declared.name.UnitName.{UnitName}
use Rattle.df_why.specs.code.Arising.{QueueState}
use Rattle.df_why.specs.code.Queues.{all_grown, grown, grown_at, modify}
use Rattle.df_why.specs.code.Tracks.{AreNumbered}
use Rattle.df_why.specs.declared.tracks.Tables.{Tables}

-- a changed element

modified : {A : Type 0} (k : ℕ) (f : A → A) (xs : List A) (x : A) → slice_get xs k ≡ Some x → slice_get (modify k f xs) k ≡ Some (f x)
modified k f [] x h = absurd (let z : ⊥ = cc in z)
modified zero f (y ∷ xs) x h = ap Some (ap f (let z = h in cc))
modified (suc k) f (y ∷ xs) x h = modified k f xs x h

unmodified : {A : Type 0} (k m : ℕ) (f : A → A) (xs : List A) → (m ≡ k → ⊥) → slice_get (modify k f xs) m ≡ slice_get xs m
unmodified k m f [] h = refl
unmodified zero zero f (y ∷ xs) h = absurd (h refl)
unmodified zero (suc m) f (y ∷ xs) h = refl
unmodified (suc k) zero f (y ∷ xs) h = refl
unmodified (suc k) (suc m) f (y ∷ xs) h = unmodified k m f xs (λ e. h (ap suc e))

-- so it is of each unit's queue
abbrev pub OfQueues : BTreeMap UnitName ℕ → List QueueState → (UnitName → QueueState → Type 0) → Type 0
OfQueues units queues P = (u : UnitName) (k : ℕ) → get unit_cmp units u ≡ Some k → (q : QueueState) × (slice_get queues k ≡ Some q) × P u q

module _ (tables : Tables) (numbered : AreNumbered tables) where
  -- one unit's queue is changed
  pub changed : (P Q : UnitName → QueueState → Type 0) (queues : List QueueState) (f : QueueState → QueueState) (a : UnitName) (k : ℕ)
      → get unit_cmp tables.units a ≡ Some k → OfQueues tables.units queues P →
      ((u : UnitName) (q : QueueState) → (u ≡ a → ⊥) → P u q → Q u q) → ((q : QueueState) → P a q → Q a (f q)) → OfQueues tables.units (modify k f queues) Q
  changed P Q queues f a k here all other mine u m h = go (cases_eq m k) (all u m h)
    where
      go : (m ≡ k) ⊎ (m ≡ k → ⊥) → (q : QueueState) × (slice_get queues m ≡ Some q) × P u q
          → (q : QueueState) × (slice_get (modify k f queues) m ≡ Some q) × Q u q
      go (inl is) old =
          let who : a ≡ u = numbered.units.apart a u k here (subst (λ (n : ℕ). get unit_cmp tables.units u ≡ Some n) is h) in (
            f old.0,
            ap (slice_get (modify k f queues)) is ∙ modified k f queues old.0 (ap (slice_get queues) (sym is) ∙ old.1),
            subst (λ (v : UnitName). Q v (f old.0)) who (mine old.0 (subst (λ (v : UnitName). P v old.0) (sym who) old.2)),
          )
      go (inr differs) old = (
        old.0,
        unmodified k m f queues differs
            ∙ old.1,
        other u old.0 (λ who. differs (let z : Some m ≡ Some k = sym h ∙ ap (get unit_cmp tables.units) who ∙ here in let n : m ≡ k = cc in n))
            old.2,
      )

  pub same_each : (P Q : UnitName → QueueState → Type 0) (queues : List QueueState) → OfQueues tables.units queues P
      → ((u : UnitName) (q : QueueState) → P u q → Q u q) → OfQueues tables.units queues Q
  same_each P Q queues all weaker u k h = let old = all u k h in (old.0, old.1, weaker u old.0 old.2)

  -- what growing brings to a queue, it brings to those of all units that are named
  module _ (core : State) (here : ℕ) (P Q : UnitName → QueueState → Type 0) (stays : (u : UnitName) (q : QueueState) → Q u q → P u q)
      (brings : (u : UnitName) (q : QueueState) → P u q → Q u (grown core u here q)) where
    -- so far these units have it
    abbrev Come : (UnitName → Bool) → UnitName → QueueState → Type 0
    Come done u q = P u q × (done u ≡ true → Q u q)

    one : (done : UnitName → Bool) (n : UnitName) (queues : List QueueState) → OfQueues tables.units queues (Come done)
        → OfQueues tables.units (grown_at core n (get unit_cmp tables.units n) here queues) (Come (λ u. done u || same n u))
    one done n queues all = go (get unit_cmp tables.units n) refl
      where
        or_old : (a b : Bool) → b ≡ false → (a || b) ≡ true → a ≡ true
        or_old true b e h = refl
        or_old false true e h = absurd (let z : ⊥ = cc in z)
        or_old false false e h = absurd (let z : ⊥ = cc in z)

        other : (u : UnitName) → (u ≡ n → ⊥) → same n u ≡ false
        other u differs = by (same n u) refl
          where
            by : (b : Bool) → same n u ≡ b → b ≡ false
            by false e = refl
            by true e = absurd (differs (sym (same_name-exact n u e)))

        still : (u : UnitName) (q : QueueState) → (u ≡ n → ⊥) → Come done u q → Come (λ v. done v || same n v) u q
        still u q differs old = (old.0, λ h. old.1 (or_old (done u) (same n u) (other u differs) h))

        go : (o : Option ℕ) → get unit_cmp tables.units n ≡ o → OfQueues tables.units (grown_at core n o here queues) (Come (λ u. done u || same n u))
        go None none = λ u k h.
            let old = all u k h in
            let differs : u ≡ n → ⊥ = λ e. (let z : Some k ≡ None = sym h ∙ ap (get unit_cmp tables.units) e ∙ none in let w : ⊥ = cc in w) in
            (old.0, old.1, still u old.0 differs old.2)
        go (Some k) at = changed (Come done) (Come (λ u. done u || same n u)) queues (grown core n here) n k at all still
            (λ q old. (stays n (grown core n here q) (brings n q old.0), λ h. brings n q old.0))

    pub all_come : (names : List UnitName) (done : UnitName → Bool) (queues : List QueueState) → OfQueues tables.units queues (Come done)
        → OfQueues tables.units (all_grown core tables.units names here queues) (Come (λ u. done u || list_any (λ n. same n u) names))
    all_come [] done queues all = same_each (Come done) (Come (λ u. done u || false)) queues all (λ u q old. (old.0, λ h. old.1 (or_false (done u) h)))
      where
        or_false : (b : Bool) → (b || false) ≡ true → b ≡ true
        or_false true h = refl
        or_false false h = absurd (let z : ⊥ = cc in z)
    all_come (n ∷ ns) done queues all = same_each (Come (λ u. (done u || same n u) || list_any (λ m. same m u) ns)) (Come (λ u. done u || list_any (λ m. same m u) (n ∷ ns)))
        (all_grown core tables.units ns here (grown_at core n (get unit_cmp tables.units n) here queues))
        (all_come ns (λ u. done u || same n u) (grown_at core n (get unit_cmp tables.units n) here queues) (one done n queues all))
        (λ u q old. (old.0, λ h. old.1 (or_assoc (done u) (same n u) (list_any (λ m. same m u) ns) h)))
      where
        or_assoc : (a b c : Bool) → (a || (b || c)) ≡ true → ((a || b) || c) ≡ true
        or_assoc true b c h = refl
        or_assoc false b c h = h
