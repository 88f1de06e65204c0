use Rattle.df_journal_file.proofs.Names.{◌-◌, ◌∷◌, [], length, ArePassed}
use Rattle.df_journal_file.proofs.place.lines_at.Given as goal

-- the lines so far stand in front of the place
abbrev pub invariant-lines : goal.invariant-lines
invariant-lines g l = ArePassed (g.L.Told.text (l.mark ∷ [])) g.L.Told.Fits l.bytes l.at l.lines.items l.place

abbrev pub decreases-lines : goal.decreases-lines
decreases-lines g l = length l.bytes - l.place
