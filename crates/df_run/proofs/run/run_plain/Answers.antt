use Rattle.df_run.proofs.Names.{AskPlainly, texts}
use Rattle.df_run.proofs.Asked.{if_asked, some_asked, usage_exact}
use Rattle.df_run.proofs.run.run_plain.Goals as goal

pub returns-in-Ok-clause-usage : goal.returns-in-Ok-clause-usage
returns-in-Ok-clause-usage g c = usage_exact AskPlainly (texts c.args.words.now) c.in-Ok.command c.in-Ok.ensures c.run_command.result c.run_command.ensures.asked

pub returns-in-Ok-clause-unused : goal.returns-in-Ok-clause-unused
returns-in-Ok-clause-unused g c = some_asked AskPlainly (texts c.args.words.now) c.in-Ok.command c.in-Ok.ensures

pub returns-in-Ok-clause-outcome : goal.returns-in-Ok-clause-outcome
returns-in-Ok-clause-outcome g c = if_asked AskPlainly (texts c.args.words.now) c.in-Ok.command c.in-Ok.ensures _ c.run_command.ensures
