use Rattle.df_check.proofs.Names.{Some, ◌≡◌, subst, take, State, AgreesWith, Noted, past_of, replayed, TellsOtherNoted, noted_for, Wrong}
use Rattle.df_check.proofs.JudgedNoted.{first_wrong, so_far_more, valid_is}
use Rattle.df_check.proofs.noted.check_noted.Goals as goal

pub other_than-requires : goal.other_than-requires
other_than-requires c = ((c.args.start.now, past_of (take c.loop-place.place c.args.journal.now)), c.loop-place.invariant.made)

pub loop-place-preserved : goal.loop-place-preserved
loop-place-preserved c =
    let core : State = (c.args.start.now, past_of (take c.loop-place.place c.args.journal.now)) in
    let so = c.loop-place.invariant in
    so_far_more c.args.start.now c.args.journal.now c.loop-place.place c.index-journal-place.result c.loop-place.tables c.other_than.new.tables
    c.loop-place-test.true so
    (subst (λ (kept : Noted). AgreesWith (replayed core kept.entry) c.other_than.new.tables) c.index-journal-place.is
    (c.in_ok-expected.ensures.made core so.made))
    (subst (λ (kept : Noted). noted_for core kept ≡ kept) c.index-journal-place.is (rw c.in_default.is at (c.in_ok-expected.ensures.other core so.made)))

pub returns-in-Some-clause-judges : goal.returns-in-Some-clause-judges
returns-in-Some-clause-judges c =
    let core : State = (c.args.start.now, past_of (take c.loop-place.place c.args.journal.now)) in
    let other = c.in-Some.expected in
    let tells = rw c.in-Some.is at (c.in_ok-expected.ensures.other core c.loop-place.invariant.made) in
    first_wrong c.args.start.now c.args.journal.now c.loop-place.place c.index-journal-place.result c.loop-place.tables other c.loop-place-test.true
    c.loop-place.invariant (subst (λ (kept : Noted). TellsOtherNoted (noted_for core kept) kept (Some other)) c.index-journal-place.is tells)

pub returns-in-Some-clause-valid : goal.returns-in-Some-clause-valid
returns-in-Some-clause-valid c = valid_is c.args.start.now c.args.journal.now (Wrong c.loop-place.place c.in-Some.expected) (returns-in-Some-clause-judges c)
