use Rattle.std.proofs.Common.{◌≡◌, ◌<◌, length, ◌∙◌}
use Rattle.std.specs.Str.{bytes_eq}
use Rattle.df_label.proofs.Spellings.{has_bytes, spelled_alike}
use Rattle.df_label.proofs.spelled_tags.SpelledTags.same.Goals as goal

pub returns : goal.returns
returns c =
    let text = c.self.inside.text in
    let other = c.other.inside.text in
    let some : 0 < length text.items = has_bytes text.len text.items c.is_empty.result text.ok.0 c.is_empty.ensures c.if-is_empty.false in
    let more : 0 < length other.items = has_bytes other.len other.items c.is_empty-else-is_empty.result other.ok.0 c.is_empty-else-is_empty.ensures c.if-is_empty-2.false in
    let same : c.eq.result ≡ bytes_eq text.items other.items = c.eq.ensures ∙ (λ i. bytes_eq (c.as_slice-2.ensures.value i) (c.as_slice-3.ensures.value i)) in
    rw (← c.self.view_is, ← c.other.view_is) (spelled_alike text.items other.items c.self.inside.list.items c.other.inside.list.items c.self.invariant c.other.invariant some more c.eq.result same)
