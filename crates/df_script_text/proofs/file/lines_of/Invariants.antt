use Rattle.df_script_text.proofs.Names.{◌≡◌, ◌-◌, List, [], length, RootStart, HasRead}
use Rattle.df_script_text.proofs.file.lines_of.Given as goal

-- these bytes are read, and the lines so far were
abbrev pub invariant-lines : goal.invariant-lines
invariant-lines l =
    (l.reader.bytes ≡ l.fn.reader.bytes)
    × ((roots : List RootStart) → HasRead roots [] l.fn.reader → HasRead roots l.lines.items l.reader)

abbrev pub decreases-lines : goal.decreases-lines
decreases-lines l = length l.reader.bytes - l.reader.place
