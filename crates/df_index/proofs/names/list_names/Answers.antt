use Rattle.std.proofs.Common.{List, ℕ, sym, subst}
use Rattle.std.specs.Cmp.Lexicographic.{nat_list_cmp_total, nat_list_eq_equiv, texts_ties}
use Rattle.std.specs.List.{Contains}
use Rattle.std.proofs.lemmas.List.Filters.{dedup_is}
use Rattle.std.proofs.lemmas.List.Kept.{Contains-dedup, Contains-from_dedup, IsStrictlySortedBy-dedup}
use Rattle.std.proofs.lemmas.List.Sorted.{Contains-permutation, IsPermutation-sym}
use Rattle.std.proofs.lemmas.Slice.Eq.{bytes_eq-Decides}
use Rattle.df_index.proofs.names.list_names.Goals as goal

pub returns-clause-ascending : goal.returns-clause-ascending
returns-clause-ascending c = rw (dedup_is _ _ _ c.dedup.ensures.filtered) (IsStrictlySortedBy-dedup nat_list_cmp_total texts_ties _ c.sort_unstable.ensures.sorted)

pub returns-clause-among : goal.returns-clause-among
returns-clause-among c n h =
    subst (λ (l : List (List ℕ)). Contains l n) c.in_ok-put_names.ensures
    (Contains-permutation _ _ n (IsPermutation-sym _ _ c.sort_unstable.ensures.permutation) (Contains-from_dedup _ _ n (rw (dedup_is _ _ _ c.dedup.ensures.filtered) at h)))

pub returns-clause-all : goal.returns-clause-all
returns-clause-all c n h =
    rw (dedup_is _ _ _ c.dedup.ensures.filtered)
    (Contains-dedup nat_list_eq_equiv (λ x y. (bytes_eq-Decides x y).0) _ n (Contains-permutation _ _ n c.sort_unstable.ensures.permutation (subst (λ (l : List (List ℕ)). Contains l n) (sym c.in_ok-put_names.ensures) h)))
