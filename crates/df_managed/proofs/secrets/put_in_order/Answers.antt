use Rattle.std.proofs.Common.{◌∙◌, sym}
use Rattle.std.specs.Cmp.Lexicographic.{lists_ties, lists_total, nat_list_cmp_total, texts_ties}
use Rattle.std.proofs.lemmas.List.Filters.{dedup_is}
use Rattle.std.proofs.lemmas.List.Kept.{IsStrictlySortedBy-dedup}
use Rattle.std.proofs.lemmas.List.Sorted.{list_any-IsPermutation}
use Rattle.df_label.specs.Tag.{tag_cmp}
use Rattle.df_label.specs.TagSet.{tag_set_eq}
use Rattle.df_label.proofs.TagSetFacts.{tag_set_eq-Decides}
use Rattle.df_managed.proofs.Choosing.{any_dedup}
use Rattle.df_managed.proofs.secrets.put_in_order.Goals as goal

pub returns-clause-ascending : goal.returns-clause-ascending
returns-clause-ascending c =
    rw (dedup_is _ _ _ c.dedup.ensures.filtered) (IsStrictlySortedBy-dedup (lists_total nat_list_cmp_total) (lists_ties tag_cmp texts_ties) _
    c.sort_unstable.ensures.sorted)

pub returns-clause-same : goal.returns-clause-same
returns-clause-same c p =
    rw (dedup_is _ _ _ c.dedup.ensures.filtered)
    (any_dedup tag_set_eq (λ x y. (tag_set_eq-Decides x y).0) p _ ∙ sym (list_any-IsPermutation p _ _ c.sort_unstable.ensures.permutation))
