use Rattle.df_live.proofs.Names.{List, ◌≡◌, ◌+◌, ◌^◌, ◌-◌, ◌≤◌, length, ScriptLine, RootStart, HasAnswered}
use Rattle.df_live.proofs.run.live.Given as goal

-- the calls that were taken are answered, and the next line is that behind them
abbrev pub invariant-calls : goal.invariant-calls
invariant-calls g l =
    (roots : List RootStart) × (lines : List ScriptLine)
    × HasAnswered roots lines (g.I.Lines.to_come l.fn.input) (g.I.Lines.to_come l.input) (g.W.Sink.written l.fn.out) (g.W.Sink.written l.out) l.tables
    × (l.next ≡ length roots + length lines + 3) × (g.I.Lines.faults l.fn.input ≤ g.I.Lines.faults l.input)
    × (g.W.Sink.faults l.fn.out ≤ g.W.Sink.faults l.out)

abbrev pub decreases-calls : goal.decreases-calls
decreases-calls g l = 2 ^ 64 - l.next
