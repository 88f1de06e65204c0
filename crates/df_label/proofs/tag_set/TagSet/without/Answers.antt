use Rattle.std.proofs.Common.{◌≡◌, false, ◌∙◌, sym}
use Rattle.df_label.specs.TagSet.{contains}
use Rattle.df_label.proofs.TagSetFacts.{ascending-without, without-absent}
use Rattle.df_label.proofs.tag_set.TagSet.without.Goals as goal

pub returns-then-not-contains : goal.returns-then-not-contains
returns-then-not-contains c =
    let outside : contains c.args.self.now c.args.t.now ≡ false = rw (← c.as_slice-tags.ensures.value) (sym c.contains.ensures ∙ c.if-not-contains.true) in
    rw (without-absent c.args.self.now c.args.t.now outside) c.copy.ensures.value

pub from_ascending-requires : goal.from_ascending-requires
from_ascending-requires c = rw (c.in_ok-without.ensures, c.as_slice-tags.ensures.value) (ascending-without c.args.self.now c.args.t.now c.as_slice-tags.ensures.ascending)
