use Rattle.std.proofs.Common.{◌≡◌, true, ◌∙◌, sym}
use Rattle.df_label.specs.TagSet.{is_subset}
use Rattle.df_label.proofs.TagSetFacts.{ascending-meet, meet-included_left, meet-included_right}
use Rattle.df_label.proofs.tag_set.TagSet.meet.Goals as goal

pub returns-then-is_subset : goal.returns-then-is_subset
returns-then-is_subset c =
    let within : is_subset c.args.self.now c.args.other.now ≡ true = sym c.is_subset.ensures ∙ c.if-is_subset.true in
    rw (meet-included_left c.args.self.now c.args.other.now within) c.copy.ensures.value

pub returns-then-is_subset-2 : goal.returns-then-is_subset-2
returns-then-is_subset-2 c =
    let within : is_subset c.args.other.now c.args.self.now ≡ true = sym c.is_subset-2.ensures ∙ c.if-is_subset-2.true in
    rw (meet-included_right c.args.self.now c.args.other.now c.as_slice-tags.ensures.ascending c.copy-then-is_subset-2.ensures.ascending within) c.copy-then-is_subset-2.ensures.value

pub from_ascending-requires : goal.from_ascending-requires
from_ascending-requires c = rw (c.in_ok-meet.ensures, c.as_slice-tags.ensures.value) (ascending-meet c.args.self.now c.as_slice-others.result.now c.as_slice-tags.ensures.ascending)
