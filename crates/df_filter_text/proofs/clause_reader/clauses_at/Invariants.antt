use Rattle.std.proofs.Common.{◌≡◌, ◌≤◌, ◌-◌, length}
use Rattle.std.specs.Vec.{vec_len}
use Rattle.df_filter_text.proofs.ClauseSteps.{SoFar}
use Rattle.df_filter_text.proofs.clause_reader.clauses_at.Given as goal

abbrev pub invariant-more : goal.invariant-more
invariant-more l = (l.place ≤ length l.bytes) × (vec_len l.clauses ≡ length l.clauses.items) × SoFar l.bytes l.at l.place l.clauses.items

abbrev pub decreases-more : goal.decreases-more
decreases-more l = 4 - vec_len l.clauses
