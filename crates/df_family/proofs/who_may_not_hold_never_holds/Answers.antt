use Rattle.df_family.proofs.BoundJournal.{never}
use Rattle.df_family.proofs.who_may_not_hold_never_holds.Goals as goal

pub returns : goal.returns
returns c = never
