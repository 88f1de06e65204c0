use Rattle.std.proofs.Common.{◌∙◌}
use Rattle.df_desk.proofs.desk.Desk.call.Goals as goal

pub returns-in-Some-try_call-clause-begins : goal.returns-in-Some-try_call-clause-begins
returns-in-Some-try_call-clause-begins g c v sits = c.in-Some-try_call.ensures.begins v (c.loop.invariant.1 ∙ sits)
