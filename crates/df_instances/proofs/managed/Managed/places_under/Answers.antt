use Rattle.std.proofs.Common.{◌≡◌, ◌∙◌, List, ℕ, Bool, ◌==◌, nat_eq, ap, sym, slice_get}
use Rattle.std.specs.Cmp.{nat_cmp_total, unsigned_ties}
use Rattle.std.specs.List.{list_any}
use Rattle.std.specs.List.Sorted.{IsStrictlySortedBy}
use Rattle.std.proofs.lemmas.Bool.{eqb-true}
use Rattle.std.proofs.lemmas.List.Filters.{dedup_is}
use Rattle.std.proofs.lemmas.List.Kept.{IsStrictlySortedBy-dedup}
use Rattle.std.proofs.lemmas.List.Sorted.{list_any-IsPermutation}
use Rattle.df_index.specs.Listing.{names_of}
use Rattle.df_part.specs.declared.part.Part.{Part}
use Rattle.df_managed.proofs.Choosing.{any_dedup}
use Rattle.df_instances.specs.Marks.{has_place}
use Rattle.df_instances.proofs.Looked.{listed_alike, looked}
use Rattle.df_instances.proofs.managed.Managed.places_under.Goals as goal

pub returns-then-is_empty-clause-ascending : goal.returns-then-is_empty-clause-ascending
unfolding IsStrictlySortedBy
returns-then-is_empty-clause-ascending c = rw c.new.ensures.items tt

pub returns-clause-ascending : goal.returns-clause-ascending
returns-clause-ascending c =
    rw (dedup_is _ _ _ c.dedup.ensures.filtered)
    (IsStrictlySortedBy-dedup nat_cmp_total unsigned_ties _ c.sort_unstable.ensures.sorted)

pub returns-clause-listed : goal.returns-clause-listed
returns-clause-listed c k =
    let same : (p : List ℕ → Bool) → list_any p c.as_slice.result.now ≡ list_any p (names_of c.args.contents.now) =
    λ p. ap (list_any p) c.as_slice.ensures.value ∙ c.in_ok-names.ensures.same p ∙ ap (λ (parts : List Part). list_any p (names_of parts)) c.parts.ensures in
    rw (dedup_is _ _ _ c.dedup.ensures.filtered)
    (any_dedup nat_eq eqb-true (λ j. j == k) _ ∙ sym (list_any-IsPermutation (λ (j : ℕ). j == k) _ _ c.sort_unstable.ensures.permutation)
    ∙ ap (λ (l : List ℕ). has_place l k) c.in_ok-places.ensures
    ∙ looked c.as_slice.result.now c.args.self.now k
    ∙ listed_alike c.as_slice.result.now (names_of c.args.contents.now) same (slice_get c.args.self.now k))
