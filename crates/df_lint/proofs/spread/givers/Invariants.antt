use Rattle.df_lint.proofs.Names.{◌≡◌, ℕ, ◌<◌, true, Contains, list_any, attaches, cells_at}
use Rattle.df_lint.proofs.spread.givers.Given as goal

abbrev pub invariant-loop-place : goal.invariant-loop-place
invariant-loop-place l = record {
  all : (k : ℕ) → k < l.place → list_any attaches (cells_at l.rows.items k) ≡ true → Contains l.places.items k;
  only : (k : ℕ) → Contains l.places.items k → k < l.place;
}
