use Rattle.df_value_text.proofs.Names.{drop, sym, ◌∙◌, failed_is}
use Rattle.df_value_text.proofs.Loops.{fails_by}
use Rattle.df_value_text.proofs.TagSteps.{set_read, some_tags}
use Rattle.df_value_text.proofs.tag_reader.tags_at.Goals as goal

pub returns-in_err-tags : goal.returns-in_err-tags
returns-in_err-tags c =
    let some = some_tags (drop c.args.at c.args.bytes.now) (sym c.byte_stands.ensures ∙ c.if-not-byte_stands.false) in
    let failed = failed_is _ c.from_residual.ensures.1 in
    record { exact = rw failed (fails_by c.in_err-tags.field-0.0 c.args.bytes.now _ _ (λ stop e. some ∙ e) c.in_err-tags.ensures.exact) }

pub between-requires-clause-order : goal.between-requires-clause-order
between-requires-clause-order c = (set_read c.args.bytes.now c.args.at c.in_ok-tags.place c.in_ok-tags.tags.items c.requires c.in_ok-tags.ensures.exact.0
    (sym c.byte_stands.ensures ∙ c.if-not-byte_stands.false) c.in_ok-tags.ensures.exact.1).onward

pub from_spelled-requires : goal.from_spelled-requires
from_spelled-requires c =
    let read = set_read c.args.bytes.now c.args.at c.in_ok-tags.place c.in_ok-tags.tags.items c.requires c.in_ok-tags.ensures.exact.0
    (sym c.byte_stands.ensures ∙ c.if-not-byte_stands.false) c.in_ok-tags.ensures.exact.1 in
    record { ascending = read.ascending; spelled = c.between.ensures ∙ read.spelled; short = read.short }

pub returns : goal.returns
returns c =
    let some = some_tags (drop c.args.at c.args.bytes.now) (sym c.byte_stands.ensures ∙ c.if-not-byte_stands.false) in
    record { exact = (c.in_ok-tags.ensures.exact.0, rw c.in_ok-set.ensures (some ∙ c.in_ok-tags.ensures.exact.1)) }
