use Rattle.std.proofs.Common.{◌≡◌, drop}
use Rattle.df_frozen.specs.Place.{node_at}
use Rattle.df_frozen.specs.Value.{plain}
use Rattle.df_frozen.proofs.frozen.Frozen.at.Given as goal

abbrev pub invariant-loop-step : goal.invariant-loop-step
invariant-loop-step l = node_at (drop l.step-index l.path) (plain l.node) ≡ node_at l.path l.self
