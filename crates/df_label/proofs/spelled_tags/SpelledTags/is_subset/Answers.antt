use Rattle.std.proofs.Common.{sym, ap, ◌∙◌}
use Rattle.df_label.specs.TagSet.{is_subset}
use Rattle.df_label.proofs.TagSetFacts.{is_subset-first_missing, is_subset-refl}
use Rattle.df_label.proofs.spelled_tags.SpelledTags.is_subset.Goals as goal

pub returns-then-same : goal.returns-then-same
returns-then-same c =
    c.if-same.true ∙ sym (ap (λ ts. is_subset ts c.args.of.now) (c.same.ensures.0 c.if-same.true) ∙ is_subset-refl c.args.of.now)

pub returns-else-same : goal.returns-else-same
returns-else-same c =
    is_subset-first_missing c.args.self.now c.args.of.now _ _ (rw (← c.as_slice.ensures, ← c.as_slice-else-same.ensures) c.first_missing.ensures) c.is_none.ensures
