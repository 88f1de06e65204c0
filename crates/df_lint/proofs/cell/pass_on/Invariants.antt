use Rattle.df_lint.proofs.Names.{◌≡◌, true, false, length, take, Grows, pass_row}
use Rattle.df_lint.proofs.cell.pass_on.Given as goal

abbrev pub invariant-loop-place : goal.invariant-loop-place
invariant-loop-place l = record {
  many : length l.taker.items ≡ length l.giver;
  passed : l.taker.items ≡ pass_row (take l.place l.giver) l.fn.taker.items;
  gains : l.gained ≡ true → Grows l.fn.taker.items l.taker.items;
  same : l.gained ≡ false → l.taker.items ≡ l.fn.taker.items;
}
