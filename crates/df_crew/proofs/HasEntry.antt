-- Whether a unit has an entry among these, or behind them.
use Rattle.df_crew.proofs.Names.{◌≡◌, List, [], ◌∷◌, ◌++◌, Bool, true, false, ◌||◌, refl, ◌∙◌, ap, reverse, list_any, reverse-append, has_entry, is_of, Entry, UnitName}

or_again : (a b c : Bool) → (a || (b || c)) ≡ ((a || b) || c)
or_again true b c = refl
or_again false b c = refl

or_swapped : (a b : Bool) → (a || (b || false)) ≡ (b || a)
or_swapped true true = refl
or_swapped true false = refl
or_swapped false true = refl
or_swapped false false = refl

or_left : (a b : Bool) → a ≡ true → (a || b) ≡ true
or_left a b h = ap (λ (x : Bool). x || b) h

or_right : (a b : Bool) → b ≡ true → (a || b) ≡ true
or_right true b h = refl
or_right false b h = h

module _ (u : UnitName) where
  pub entry_any : (xs : List Entry) → list_any (λ e. is_of u e) xs ≡ has_entry u xs
  entry_any [] = refl
  entry_any (x ∷ xs) = ap (λ (b : Bool). is_of u x || b) (entry_any xs)

  pub entry_append : (xs ys : List Entry) → has_entry u (xs ++ ys) ≡ (has_entry u xs || has_entry u ys)
  entry_append [] ys = refl
  entry_append (x ∷ xs) ys = ap (λ (b : Bool). is_of u x || b) (entry_append xs ys) ∙ or_again (is_of u x) (has_entry u xs) (has_entry u ys)

  pub entry_reverse : (xs : List Entry) → has_entry u (reverse xs) ≡ has_entry u xs
  entry_reverse [] = refl
  entry_reverse (x ∷ xs) =
      ap (λ (es : List Entry). has_entry u es) (reverse-append (x ∷ []) xs)
      ∙ entry_append (reverse xs) (x ∷ [])
      ∙ ap (λ (b : Bool). b || (is_of u x || false)) (entry_reverse xs)
      ∙ or_swapped (has_entry u xs) (is_of u x)

  pub entry_before : (xs ys : List Entry) → has_entry u ys ≡ true → has_entry u (xs ++ ys) ≡ true
  entry_before xs ys h = entry_append xs ys ∙ or_right (has_entry u xs) (has_entry u ys) h

  pub entry_behind : (xs ys : List Entry) → has_entry u xs ≡ true → has_entry u (xs ++ ys) ≡ true
  entry_behind xs ys h = entry_append xs ys ∙ or_left (has_entry u xs) (has_entry u ys) h
