use Rattle.std.proofs.Common.{arith}
use Rattle.df_handles.proofs.OpenHandles.{one_more, open_fits}
use Rattle.df_handles.proofs.handles.Handles.open_view.Goals as goal

pub overflow_add-self : goal.overflow_add-self
overflow_add-self c = omega (arith, c.self.invariant, one_more _ _ _ c.in_ok-begin_view.ensures.ok, open_fits c.begin_view.new.slots)
