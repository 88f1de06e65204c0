-- To whom an event is to be handed is who is found under the names of its contents.
use Rattle.std.proofs.Common.{◌≡◌, ℕ, List, Option, Some, None, Bool, true, false, ◌&&◌, not, slice_get, refl, All}
use Rattle.std.specs.Prelude.{IsSome}
use Rattle.std.specs.List.{Contains}
use Rattle.std.proofs.lemmas.List.Elements.{All-contains}
use Rattle.df_label.specs.declared.label.Label.{Label}
use Rattle.df_part.specs.Part.{cut, readable}
use Rattle.df_part.specs.declared.edit.Spot.{Spot}
use Rattle.df_part.specs.declared.part.Part.{Part}
use Rattle.df_index.specs.Due.{IsDue, Pair, adds_readable, is_due, is_due_at, pair_of, pairs_at, has_pair}
use Rattle.df_index.specs.Listing.{names_of}
use Rattle.df_index.specs.declared.subscription.Subscription.{Subscription}
use Rattle.df_index.proofs.WhoIsDue.{found_passes, kept_names, passing_found, places_under}

some_of : {X : Type 0} (o : Option X) → IsSome o → (x : X) × (o ≡ Some x)
some_of None h = absurd (let z : ⊥ = cc in z)
some_of (Some x) h = (x, refl)

middle : (a b c : Bool) → (a && (b && c)) ≡ true → b ≡ true
middle true true c e = refl
middle true false c e = e
middle false b c e = absurd (let z : ⊥ = cc in z)

module _ {F : Type 0} (first : F → Option (List ℕ)) (matches : F → List Part → Bool) (labels : List Label) (handed : List Pair) (contents : List Part) (edit : List Spot × List Part) (xs : List (Subscription F)) (names : List (List ℕ)) where
  -- who is found is due
  pub found_due : (p : Pair) → Contains (pairs_at (is_due matches labels handed contents edit) xs (places_under first xs names)) p → IsDue matches labels handed contents edit xs p
  found_due p h =
      let f = found_passes first (is_due matches labels handed contents edit) xs names p h in
      record { subscription = f.subscription; enrolled = f.enrolled; pair = f.pair; due = f.passes }

  -- what is due has a filter that matches parts of the contents
  due_matches : (s : Subscription F) (o : Option Label) → is_due_at matches handed contents edit o s ≡ true → (at : Label) × (matches s.filter (cut at contents) ≡ true)
  due_matches s None e = absurd (let z : ⊥ = cc in z)
  due_matches s (Some at) e = (at, middle (adds_readable at edit) (matches s.filter (cut at contents)) (not (has_pair handed (pair_of s))) e)

  -- who is due is found, where each name of the contents is looked at
  pub due_found : ((f : F) (parts : List Part) (n : List ℕ) → first f ≡ Some n → matches f parts ≡ true → Contains (names_of parts) n) → All (λ s. IsSome (first s.filter)) xs → ((n : List ℕ) → Contains (names_of contents) n → Contains names n)
      → (p : Pair) → IsDue matches labels handed contents edit xs p → Contains (pairs_at (is_due matches labels handed contents edit) xs (places_under first xs names)) p
  due_found law named all p d =
      passing_found first (is_due matches labels handed contents edit) xs names looked p (record { subscription = d.subscription; enrolled = d.enrolled; pair = d.pair; passes = d.due })
    where
      looked : (s : Subscription F) → Contains xs s → is_due matches labels handed contents edit s ≡ true → (n : List ℕ) × (first s.filter ≡ Some n) × Contains names n
      looked s c e =
          let name = some_of (first s.filter) (All-contains (λ (x : Subscription F). IsSome (first x.filter)) xs s named c) in
          let match = due_matches s (slice_get labels s.unit) e in
          (name.0, name.1, all name.0 (kept_names (λ (q : Part). q.name) (readable match.0) contents name.0 (law s.filter (cut match.0 contents) name.0 name.1 match.1)))
