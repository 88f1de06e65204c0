use Rattle.std.proofs.lemmas.Result.{IfOk-weaker}
use Rattle.df_replay.proofs.Comparing.{on_ok_always}
use Rattle.df_check.proofs.JudgedNoted.{tells_note, tells_other}
use Rattle.df_check.proofs.noted.other_than.Goals as goal

pub returns-in-Same-clause-made : goal.returns-in-Same-clause-made
returns-in-Same-clause-made c = on_ok_always c.other_note.result (λ core agrees. c.in_ok-contamination.ensures.made core agrees)

pub returns-in-Same-clause-other : goal.returns-in-Same-clause-other
returns-in-Same-clause-other c =
    IfOk-weaker c.other_note.result _ _
    (λ other told core agrees. tells_note core c.args.kept.now c.in-Same.contamination other (rw c.in-Same.is at (c.in_ok-contamination.ensures.compares core agrees)) told)
    c.other_note.ensures

pub returns-in-Other-clause-other : goal.returns-in-Other-clause-other
returns-in-Other-clause-other c core agrees =
    tells_other core c.args.kept.now c.in-Other.expected (rw c.in-Other.is at (c.in_ok-contamination.ensures.compares core agrees))
