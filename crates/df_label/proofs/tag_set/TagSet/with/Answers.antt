use Rattle.std.proofs.Common.{◌≡◌, true, ◌∙◌, sym}
use Rattle.df_label.specs.TagSet.{contains}
use Rattle.df_label.proofs.TagSetFacts.{ascending-union, with-present}
use Rattle.df_label.proofs.tag_set.TagSet.with.Goals as goal

pub returns-then-contains : goal.returns-then-contains
returns-then-contains c =
    let within : contains c.args.self.now c.args.t.now ≡ true = rw (← c.as_slice-tags.ensures.value) (sym c.contains.ensures ∙ c.if-contains.true) in
    rw (with-present c.args.self.now c.args.t.now c.copy.ensures.ascending within) c.copy.ensures.value

pub from_ascending-requires : goal.from_ascending-requires
from_ascending-requires c = rw (c.in_ok-union.ensures, c.as_slice-tags.ensures.value) (ascending-union c.args.self.now c.from_ref.result.now c.as_slice-tags.ensures.ascending)
