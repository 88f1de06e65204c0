use Rattle.std.proofs.lemmas.Result.{IfOk-weaker}
use Rattle.df_replay.proofs.Comparing.{on_ok_always, step_compares}
use Rattle.df_replay.proofs.repeats.compare.Goals as goal

pub returns-in_ok-answer-in-Done-clause-compares : goal.returns-in_ok-answer-in-Done-clause-compares
returns-in_ok-answer-in-Done-clause-compares c =
    rw c.in-Done.is
    (IfOk-weaker c.compare_answer.result _ _
    (λ compared told core agrees. step_compares core _ _ _ _ c.in_ok-answer-in-Done.answer c.in_ok-contamination-in-Done.contamination compared
    (c.in_ok-answer-in-Done.ensures.answer core c.in-Done.actor agrees c.place-place.ensures)
    (c.in_ok-contamination-in-Done.ensures core c.in-Done.actor agrees c.place-place.ensures) told)
    c.compare_answer.ensures)

pub returns-in_ok-answer-in-Done-clause-made : goal.returns-in_ok-answer-in-Done-clause-made
returns-in_ok-answer-in-Done-clause-made c =
    rw c.in-Done.is
    (on_ok_always c.compare_answer.result
    (λ core agrees. c.in_ok-answer-in-Done.ensures.entry core c.in-Done.actor agrees c.place-place.ensures))

pub returns-in_ok-emitted-in-Emitted-clause-made : goal.returns-in_ok-emitted-in-Emitted-clause-made
returns-in_ok-emitted-in-Emitted-clause-made c = rw c.in-Emitted.is (λ core agrees. c.in_ok-emitted-in-Emitted.ensures.entry core agrees)
