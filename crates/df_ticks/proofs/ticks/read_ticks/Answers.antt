use Rattle.df_ticks.proofs.Ranges.{file_in_form}
use Rattle.df_ticks.proofs.ticks.read_ticks.Goals as goal

pub returns-in-Ok-clause-in_form : goal.returns-in-Ok-clause-in_form
returns-in-Ok-clause-in_form c = file_in_form c.args.bytes.now c.in-Ok.ticks.items c.in-Ok.ensures.read
