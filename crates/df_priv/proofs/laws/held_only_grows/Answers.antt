use Rattle.df_label.proofs.PrivilegeFacts.{ascending-add}
use Rattle.df_priv.proofs.HeldFacts.{holds-grant, holds-grant_kept, holds-grant_itself}
use Rattle.df_priv.proofs.laws.held_only_grows.Goals as goal

pub returns-clause-kept : goal.returns-clause-kept
returns-clause-kept c = holds-grant_kept

pub returns-clause-granted : goal.returns-clause-granted
returns-clause-granted c = holds-grant_itself

pub returns-clause-alone : goal.returns-clause-alone
returns-clause-alone c = holds-grant

pub returns-clause-ascending : goal.returns-clause-ascending
returns-clause-ascending c = ascending-add
