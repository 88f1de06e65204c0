use Rattle.df_value_text.proofs.Names.{length, ◌-◌, ◌≡◌, ◌≤◌, drop, with_front, pairs_at}
use Rattle.df_value_text.proofs.bytes_reader.pairs_at.Given as goal

-- what is left is read as all was to be
abbrev pub invariant-loop-place : goal.invariant-loop-place
invariant-loop-place l = record {
  onward : l.at ≤ l.place;
  within : l.place ≤ length l.bytes;
  rest : with_front l.content.items (pairs_at (drop l.place l.bytes)) ≡ pairs_at (drop l.at l.bytes);
}

abbrev pub decreases-loop-place : goal.decreases-loop-place
decreases-loop-place l = length l.bytes - l.place
