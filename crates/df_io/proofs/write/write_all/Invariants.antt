use Rattle.std.proofs.Common.{length, take, ◌-◌, ◌≤◌}
use Rattle.df_io.specs.Pieces.{HasAll}
use Rattle.df_io.proofs.write.write_all.Given as goal

abbrev pub invariant-loop-done : goal.invariant-loop-done
invariant-loop-done g l = record {
  within : l.done ≤ length l.text;
  appended : HasAll (g.W.Sink.written l.initial.out) (take l.done l.text) (g.W.Sink.written l.out);
  never_falls : g.W.Sink.faults l.initial.out ≤ g.W.Sink.faults l.out;
}

abbrev pub decreases-loop-done : goal.decreases-loop-done
decreases-loop-done g l = length l.text - l.done
