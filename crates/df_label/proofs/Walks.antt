-- The steps of one walk over two ascending lists of tags.
use Rattle.std.proofs.Common.{◌≡◌, ℕ, not, cond, ◌||◌, false, List, [], ◌∷◌, Some, ap, sym, ◌∙◌, subst, refl}
use Rattle.std.specs.declared.cmp.Ordering.TheVariants.{Less, Equal, Greater}
use Rattle.std.specs.Ordering.{match_ordering, is_eq}
use Rattle.df_label.specs.Ascending.{IsBelow, IsAscending}
use Rattle.df_label.specs.Tag.{tag_cmp}
use Rattle.df_label.specs.TagSet.{contains, first_missing, with, union}
use Rattle.df_label.proofs.SetFacts.{reversed, below_trans, contains-below}
use Rattle.df_label.proofs.TagSetFacts.{tag_cmp_exact}

-- ---- one walk for the first that is missing

first_missing-below : (u : List ℕ) (us ts : List (List ℕ)) → IsBelow tag_cmp u ts → first_missing (u ∷ us) ts ≡ first_missing us ts
first_missing-below u us [] b = refl
first_missing-below u us (t ∷ ts) b = λ i. cond (not (is_eq (b.0 i) || contains us t)) (Some t) (first_missing-below u us ts b.1 i)

module _ (left rest : List (List ℕ)) (u t : List ℕ) (us ts : List (List ℕ)) (l : left ≡ u ∷ us) (r : rest ≡ t ∷ ts) where
  both_missing : first_missing left rest ≡ first_missing (u ∷ us) (t ∷ ts)
  both_missing = λ i. first_missing (l i) (r i)

  pub missing_less : tag_cmp t u ≡ Less → IsAscending tag_cmp left → first_missing left rest ≡ Some t
  missing_less h a =
      let s : IsAscending tag_cmp (u ∷ us) = subst (IsAscending tag_cmp) l a in
      let none : contains (u ∷ us) t ≡ false = contains-below tag_cmp tag_cmp_exact t (u ∷ us) (h, below_trans tag_cmp tag_cmp_exact t u us h s.0) in
      both_missing ∙ ap (λ c. cond (not c) (Some t) (first_missing (u ∷ us) ts)) none

  pub missing_equal : tag_cmp t u ≡ Equal → IsAscending tag_cmp rest → first_missing left rest ≡ first_missing us ts
  missing_equal h a =
      let s : IsAscending tag_cmp (t ∷ ts) = subst (IsAscending tag_cmp) r a in
      let b : IsBelow tag_cmp u ts = subst (λ x. IsBelow tag_cmp x ts) (tag_cmp_exact.exact t u h) s.0 in
      both_missing ∙ (λ i. cond (not (is_eq (reversed tag_cmp tag_cmp_exact t u Equal h i) || contains us t)) (Some t) (first_missing-below u us ts b i))

  pub missing_greater : tag_cmp t u ≡ Greater → IsAscending tag_cmp rest → first_missing left rest ≡ first_missing us rest
  missing_greater h a =
      let s : IsAscending tag_cmp (t ∷ ts) = subst (IsAscending tag_cmp) r a in
      let b : tag_cmp u t ≡ Less = reversed tag_cmp tag_cmp_exact t u Greater h in
      both_missing ∙ first_missing-below u us (t ∷ ts) (b, below_trans tag_cmp tag_cmp_exact u t ts b s.0) ∙ ap (first_missing us) (sym r)

-- ---- one walk for the union

union-below : (t : List ℕ) (ts us : List (List ℕ)) → IsBelow tag_cmp t us → union (t ∷ ts) us ≡ t ∷ union ts us
union-below t ts [] b = refl
union-below t ts (u ∷ us) b =
    (λ i. union (match_ordering (reversed tag_cmp tag_cmp_exact t u Less b.0 i) (u ∷ t ∷ ts) (t ∷ ts) (t ∷ with ts u)) us)
    ∙ union-below t (with ts u) us b.1

-- the union with nothing on its left
pub union-nil : (us : List (List ℕ)) → IsAscending tag_cmp us → union [] us ≡ us
union-nil [] a = refl
union-nil (u ∷ us) a = union-below u [] us a.0 ∙ ap (λ l. u ∷ l) (union-nil us a.1)

module _ (left right : List (List ℕ)) (t u : List ℕ) (ts us : List (List ℕ)) (l : left ≡ t ∷ ts) (r : right ≡ u ∷ us) where
  both_united : union left right ≡ union (t ∷ ts) (u ∷ us)
  both_united = λ i. union (l i) (r i)

  pub union_less : tag_cmp t u ≡ Less → IsAscending tag_cmp right → union left right ≡ t ∷ union ts right
  union_less h a =
      let s : IsAscending tag_cmp (u ∷ us) = subst (IsAscending tag_cmp) r a in
      both_united ∙ union-below t ts (u ∷ us) (h, below_trans tag_cmp tag_cmp_exact t u us h s.0) ∙ ap (λ x. t ∷ union ts x) (sym r)

  pub union_equal : tag_cmp t u ≡ Equal → IsAscending tag_cmp right → union left right ≡ t ∷ union ts us
  union_equal h a =
      let s : IsAscending tag_cmp (u ∷ us) = subst (IsAscending tag_cmp) r a in
      let b : IsBelow tag_cmp t us = subst (λ x. IsBelow tag_cmp x us) (sym (tag_cmp_exact.exact t u h)) s.0 in
      both_united
      ∙ (λ i. union (match_ordering (reversed tag_cmp tag_cmp_exact t u Equal h i) (u ∷ t ∷ ts) (t ∷ ts) (t ∷ with ts u)) us)
      ∙ union-below t ts us b

  pub union_greater : tag_cmp t u ≡ Greater → IsAscending tag_cmp right → union left right ≡ u ∷ union left us
  union_greater h a =
      let s : IsAscending tag_cmp (u ∷ us) = subst (IsAscending tag_cmp) r a in
      both_united
      ∙ (λ i. union (match_ordering (reversed tag_cmp tag_cmp_exact t u Greater h i) (u ∷ t ∷ ts) (t ∷ ts) (t ∷ with ts u)) us)
      ∙ union-below u (t ∷ ts) us s.0
      ∙ ap (λ x. u ∷ union x us) (sym l)
