use Rattle.df_rules.proofs.Names.{rows, roots}
use Rattle.df_rules.proofs.Places.{legal_at, legal_by_places}
use Rattle.df_rules.proofs.legal_by_places.Goals as goal

pub returns-clause-each : goal.returns-clause-each
returns-clause-each c = λ start j h before later e same. legal_at rows (roots start) j h before later e same

pub returns-clause-all : goal.returns-clause-all
returns-clause-all c = λ start j h. legal_by_places rows (roots start) j h
