use Rattle.df_value_text.proofs.Names.{length, ◌-◌, ◌≡◌, ◌≤◌, drop, digits_at}
use Rattle.df_value_text.proofs.number_reader.digits_at.Given as goal

-- what is left is read as all was to be
abbrev pub invariant-loop-place : goal.invariant-loop-place
invariant-loop-place l = record {
  onward : l.at ≤ l.place;
  within : l.place ≤ length l.bytes;
  small : l.number ≤ l.most;
  rest : digits_at l.most l.number (drop l.place l.bytes) ≡ digits_at l.most l.first (drop l.at l.bytes);
}

abbrev pub decreases-loop-place : goal.decreases-loop-place
decreases-loop-place l = length l.bytes - l.place
