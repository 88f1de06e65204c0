use Rattle.df_workers.proofs.Names.{◌≡◌, All, vec_len, IsFree, IsHired}
use Rattle.df_workers.proofs.rounds.hire.Given as goal

abbrev pub invariant-loop-hired : goal.invariant-loop-hired
invariant-loop-hired g l = IsFree l.hub l.pass × (l.pass.seen ≡ l.fn.pass.seen) × (vec_len l.all ≡ l._hired) × All (IsHired l.hub l.fn.pass.seen) l.all.items
