use Rattle.df_replay.proofs.repeats.repeat.Goals as goal

pub returns-in_ok-emitted-in-Emitted-clause-made : goal.returns-in_ok-emitted-in-Emitted-clause-made
returns-in_ok-emitted-in-Emitted-clause-made c = rw c.in-Emitted.is (λ core agrees. c.in_ok-emitted-in-Emitted.ensures.entry core agrees)
