use Rattle.df_why.proofs.Tracking.{IsSoFar}
use Rattle.df_why.proofs.tracks.track_all.Given as goal

abbrev pub invariant-loop-entry : goal.invariant-loop-entry
invariant-loop-entry l = IsSoFar l.tables l.tracks.items l.journal l.entry-index
