use Rattle.std.proofs.Common.{◌∙◌, List, ℕ, ap, sym}
use Rattle.std.specs.Cmp.Lexicographic.{nat_list_cmp_total, texts_ties}
use Rattle.std.specs.List.{list_any}
use Rattle.std.proofs.lemmas.List.Filters.{dedup_is}
use Rattle.std.proofs.lemmas.List.Kept.{IsStrictlySortedBy-dedup}
use Rattle.std.proofs.lemmas.List.Sorted.{list_any-IsPermutation}
use Rattle.std.proofs.lemmas.Slice.Eq.{bytes_eq-Decides}
use Rattle.std.specs.Str.{bytes_eq}
use Rattle.df_managed.proofs.Choosing.{any_dedup}
use Rattle.df_instances.proofs.names.names.Goals as goal

pub returns-clause-ascending : goal.returns-clause-ascending
returns-clause-ascending c =
    rw (dedup_is _ _ _ c.dedup.ensures.filtered)
    (IsStrictlySortedBy-dedup nat_list_cmp_total texts_ties _ c.sort_unstable.ensures.sorted)

pub returns-clause-same : goal.returns-clause-same
returns-clause-same c p =
    rw (dedup_is _ _ _ c.dedup.ensures.filtered)
    (any_dedup bytes_eq (λ x y. (bytes_eq-Decides x y).0) p _ ∙ sym (list_any-IsPermutation p _ _ c.sort_unstable.ensures.permutation)
    ∙ ap (λ (l : List (List ℕ)). list_any p l) c.in_ok-names.ensures)
