use Rattle.df_purge.proofs.Names.{◌≡◌, ◌++◌, reverse, subst, take, State, AgreesWith, left_of, contamination_of, replayed, Entry, is_noted_within}
use Rattle.df_purge.proofs.SoFar.{by_privileges, left_keeps, left_legal, so_far_all, so_far_more}
use Rattle.df_purge.proofs.purged.purge.Goals as goal

pub repeat-requires : goal.repeat-requires
repeat-requires c = ((c.args.start.now, reverse (take c.loop-kept.kept-index c.args.journal.now)), c.loop-kept.invariant.made)

pub loop-kept-preserved : goal.loop-kept-preserved
loop-kept-preserved c =
    let so = c.loop-kept.invariant in
    let core : State = (c.args.start.now, reverse (take c.loop-kept.kept-index c.args.journal.now)) in
    let label = c.args.label.now in
    let note = c.in_ok-contamination.contamination in
    let is = subst (λ (kept : Entry). note ≡ contamination_of core kept) c.kept-item.is (c.in_ok-contamination.ensures.contamination core so.made) in
    let pushed = subst (λ (kept : Entry). c.push_left.new.to.items ≡ c.loop-kept.left.items ++ left_of label (is_noted_within label note) kept) c.kept-item.is
    c.in_ok-push_left.ensures in
    let made = subst (λ (kept : Entry). AgreesWith (replayed core kept) c.repeat.new.tables) c.kept-item.is
    (c.in_ok-contamination.ensures.made core so.made) in
    so_far_more c.args.start.now label c.args.journal.now c.requires c.loop-kept.kept-index c.kept-item.result c.loop-kept.tables c.repeat.new.tables note
    c.loop-kept.left.items c.push_left.new.to.items c.loop-kept-test.true so is pushed made

pub returns-clause-legal : goal.returns-clause-legal
returns-clause-legal c =
    let same = so_far_all c.args.start.now c.args.label.now c.args.journal.now c.loop-kept.kept-index c.loop-kept.tables c.loop-kept.left.items c.loop-kept-test.false c.loop-kept.invariant in
    left_legal c.args.start.now c.args.label.now c.args.journal.now c.loop-kept.left.items same c.requires

pub returns-clause-keeps : goal.returns-clause-keeps
returns-clause-keeps c =
    let same = so_far_all c.args.start.now c.args.label.now c.args.journal.now c.loop-kept.kept-index c.loop-kept.tables c.loop-kept.left.items c.loop-kept-test.false c.loop-kept.invariant in
    left_keeps c.args.start.now c.args.label.now c.args.journal.now c.loop-kept.left.items same

pub returns-clause-exercised : goal.returns-clause-exercised
returns-clause-exercised c = by_privileges c.args.start.now c.args.label.now c.args.journal.now c.requires
