use Rattle.df_rules.proofs.Exercised.{exercised}
use Rattle.df_rules.proofs.PurgeKeeps.{purge_keeps, purge_legal}
use Rattle.df_rules.proofs.purge_for_all_rules.Goals as goal

pub returns-clause-legal : goal.returns-clause-legal
returns-clause-legal c = λ R s l past laws legal. purge_legal R s laws l past legal

pub returns-clause-keeps : goal.returns-clause-keeps
returns-clause-keeps c = λ R s l past laws. purge_keeps R s laws l past

pub returns-clause-exercised : goal.returns-clause-exercised
returns-clause-exercised c = λ R s l past laws release u call r f k legal h. exercised R s laws release l past u call r f k legal h
