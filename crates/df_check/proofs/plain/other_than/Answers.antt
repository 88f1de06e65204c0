use Rattle.df_check.proofs.Names.{ap, slice_get, State, entry_for}
use Rattle.df_check.proofs.plain.other_than.Goals as goal

pub newest_if_other-requires : goal.newest_if_other-requires
newest_if_other-requires c = (entry_for c.args.core.now c.args.kept.now, ap (λ (s : State). slice_get s.1 0) c.in_ok-replay.ensures)

pub returns-clause-other : goal.returns-clause-other
returns-clause-other c = c.newest_if_other.ensures (entry_for c.args.core.now c.args.kept.now) (ap (λ (s : State). slice_get s.1 0) c.in_ok-replay.ensures)
