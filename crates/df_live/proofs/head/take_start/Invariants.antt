use Rattle.df_live.proofs.Names.{◌^◌, ◌-◌, ◌≤◌, length, Consumes, AreRoots, lines_text, head_lines}
use Rattle.df_live.proofs.head.take_start.Given as goal

-- the lines of the roots so far were taken
abbrev pub invariant-roots : goal.invariant-roots
invariant-roots g l =
    AreRoots l.roots.items
    × Consumes (g.I.Lines.to_come l.fn.input) (g.I.Lines.to_come l.input) (lines_text (head_lines l.roots.items))
    × (g.I.Lines.faults l.fn.input ≤ g.I.Lines.faults l.input)

abbrev pub decreases-roots : goal.decreases-roots
decreases-roots g l = 2 ^ 32 - length l.roots.items
