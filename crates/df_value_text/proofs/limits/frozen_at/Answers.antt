use Rattle.df_value_text.proofs.LimitLaws.{tells_found}
use Rattle.df_value_text.proofs.limits.frozen_at.Goals as goal

pub returns-in-Some : goal.returns-in-Some
returns-in-Some c = tells_found c.args.bytes.now c.args.at c.in-Some.found c.in-Some.ensures
