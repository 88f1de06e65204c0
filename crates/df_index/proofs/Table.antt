-- The places at each name after a write at one name.
use Rattle.std.proofs.Common.{◌≡◌, ℕ, List, [], ◌∷◌, ◌++◌, Option, Some, Bool, true, false, cond, refl, ap, ◌∙◌}
use Rattle.std.specs.Option.{unwrap_or}
use Rattle.std.specs.Str.{bytes_eq}
use Rattle.std.specs.BTreeMap as tree
use Rattle.std.specs.BTreeMap.{BTreeMap}
use Rattle.std.specs.Cmp.Lexicographic.{slice_cmp}
use Rattle.std.specs.Ordering.{nat_cmp, is_eq}
use Rattle.std.proofs.lemmas.Map.Text.{is_eq-slice_cmp}
use Rattle.std.proofs.lemmas.Slice.Eq.{bytes_eq-Decides}
use Rattle.df_index.specs.Listing.{places_at}

module _ (table new : BTreeMap (List ℕ) (List ℕ)) (name w : List ℕ) (updates : (q : List ℕ) → tree.get (slice_cmp nat_cmp) new q ≡ cond (is_eq (slice_cmp nat_cmp name q)) (Some w) (tree.get (slice_cmp nat_cmp) table q)) where
  written : (n : List ℕ) → places_at n new ≡ cond (bytes_eq name n) w (places_at n table)
  written n = ap (λ (o : Option (List ℕ)). unwrap_or o []) (updates n) ∙ by (is_eq (slice_cmp nat_cmp name n)) (bytes_eq name n) (is_eq-slice_cmp name n)
    where
      by : (a b : Bool) → a ≡ b → unwrap_or (cond a (Some w) (tree.get (slice_cmp nat_cmp) table n)) [] ≡ cond b w (places_at n table)
      by true true e = refl
      by true false e = absurd (let z : ⊥ = cc in z)
      by false true e = absurd (let z : ⊥ = cc in z)
      by false false e = refl

  -- one more place at the name
  pub one_more : (place : ℕ) → w ≡ places_at name table ++ place ∷ [] → (n : List ℕ) → places_at n new ≡ cond (bytes_eq name n) (places_at n table ++ place ∷ []) (places_at n table)
  one_more place e n = written n ∙ by (bytes_eq name n) (bytes_eq-Decides name n).0
    where
      by : (b : Bool) → (b ≡ true → name ≡ n) → cond b w (places_at n table) ≡ cond b (places_at n table ++ place ∷ []) (places_at n table)
      by true same = e ∙ ap (λ (m : List ℕ). places_at m table ++ place ∷ []) (same refl)
      by false same = refl

  -- the same places at the name
  pub as_before : w ≡ places_at name table → (n : List ℕ) → places_at n new ≡ places_at n table
  as_before e n = written n ∙ by (bytes_eq name n) (bytes_eq-Decides name n).0
    where
      by : (b : Bool) → (b ≡ true → name ≡ n) → cond b w (places_at n table) ≡ places_at n table
      by true same = e ∙ ap (λ (m : List ℕ). places_at m table) (same refl)
      by false same = refl
