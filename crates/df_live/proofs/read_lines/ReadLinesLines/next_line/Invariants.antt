use Rattle.df_live.proofs.Names.{◌-◌, ◌≤◌, length, Consumes, longest_file, IsLine}
use Rattle.df_live.specs.ReadLines.{faults_of, left_of}
use Rattle.df_live.proofs.read_lines.ReadLinesLines.next_line.Given as goal

-- what was taken so far is the front of a line
abbrev pub invariant-parts : goal.invariant-parts
invariant-parts g l =
    IsLine l.line.items × (length l.line.items ≤ longest_file)
    × Consumes (left_of g.R.Read.remaining l.initial.self) (left_of g.R.Read.remaining l.self) l.line.items
    × (faults_of l.initial.self ≤ faults_of l.self)

abbrev pub decreases-parts : goal.decreases-parts
decreases-parts g l = longest_file - length l.line.items
