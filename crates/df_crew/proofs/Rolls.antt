-- The names of a roll, one after another.
use Rattle.df_crew.proofs.Names.{◌≡◌, inl, inr, ℕ, suc, true, List, [], ◌∷◌, ◌++◌, sym, ◌∙◌, ap, Some, None, length, take, length-append, slice_get, or_cases, take_all, contains_by, same_name-exact, unit_cmp, unit_cmp_ties, UnitName}
use Rattle.std.proofs.lemmas.Grind.{take_at_read}
use Rattle.std.proofs.lemmas.Option.{get_or_from_slice_get, slice_get_cases, slice_get_within}

module _ {A : Type 0} (xs all : List A) (begins : xs ≡ take (length xs) all) where
  -- a beginning of a list, with what follows it
  pub begins_more : (x : A) → slice_get all (length xs) ≡ Some x → xs ++ x ∷ [] ≡ take (length (xs ++ x ∷ [])) all
  begins_more x at =
      ap (λ (l : List A). l ++ x ∷ []) begins
      ∙ ap (λ (v : A). take (length xs) all ++ v ∷ []) (sym (get_or_from_slice_get all (length xs) x x at))
      ∙ sym (take_at_read all (length xs) x (slice_get_within all (length xs) x at)).1
      ∙ ap (λ (n : ℕ). take n all) (sym (length-append xs (x ∷ [])))

  -- a beginning behind which nothing follows is the whole list
  pub begins_all : slice_get all (length xs) ≡ None → xs ≡ all
  begins_all none = elim (slice_get_cases all (length xs)).1 [
    | inl here ↦ absurd (let e = here.2 in let z : ⊥ = cc in z)
    | inr past ↦ begins ∙ take_all (length xs) all past.0
  ]

-- what is one of the names stands at a place
pub placed : (names : List UnitName) (u : UnitName) → contains_by unit_cmp names u ≡ true → (k : ℕ) × (slice_get names k ≡ Some u)
placed [] u h = absurd (let z : ⊥ = cc in z)
placed (v ∷ names) u h = elim (or_cases _ _ h) [
  | inl e ↦ (0, ap Some (same_name-exact v u (unit_cmp_ties v u ∙ e)))
  | inr there ↦ (let p = placed names u there in (suc p.0, p.1))
]
