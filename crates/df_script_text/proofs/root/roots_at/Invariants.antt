use Rattle.df_script_text.proofs.Names.{◌-◌, length, ArePassed}
use Rattle.df_script_text.proofs.root.roots_at.Given as goal

-- the roots so far stand in front of the place
abbrev pub invariant-roots : goal.invariant-roots
invariant-roots l = ArePassed l.bytes l.at l.roots.items l.place

abbrev pub decreases-roots : goal.decreases-roots
decreases-roots l = length l.bytes - l.place
