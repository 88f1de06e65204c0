use Rattle.df_rules.proofs.Names.{rows, roots}
use Rattle.df_rules.proofs.Runs.{run_legal, run_unaided, calls_of-run, is_run}
use Rattle.df_rules.proofs.runs_are_legal.Goals as goal

pub returns-clause-legal : goal.returns-clause-legal
returns-clause-legal c = λ start calls. run_legal rows (roots start) calls

pub returns-clause-unaided : goal.returns-clause-unaided
returns-clause-unaided c = λ start calls. run_unaided rows (roots start) calls

pub returns-clause-calls : goal.returns-clause-calls
returns-clause-calls c = λ start calls. calls_of-run rows (roots start) calls

pub returns-clause-only : goal.returns-clause-only
returns-clause-only c = λ start past legal unaided. is_run rows (roots start) past legal unaided
