use Rattle.df_floor_run.proofs.Told.{IsToldSoFar}
use Rattle.df_floor_run.proofs.journal.append_past.Given as goal

abbrev pub invariant-loop-kept : goal.invariant-loop-kept
invariant-loop-kept l = IsToldSoFar l.core.0 l.entries l.initial.text.items l.kept-index l.tables l.text.items
