use Rattle.df_rules.proofs.Names.{rows, roots}
use Rattle.df_rules.proofs.Matching.{called_for, handed_by_then}
use Rattle.df_rules.proofs.deliveries_are_what_matches.Goals as goal

pub returns-clause-each : goal.returns-clause-each
returns-clause-each c = λ start past u d h. called_for rows (roots start) past u d h

pub returns-clause-all : goal.returns-clause-all
returns-clause-all c = λ start past e u k d same calls. handed_by_then rows (roots start) e past u k d same calls
