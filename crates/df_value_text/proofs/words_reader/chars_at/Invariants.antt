use Rattle.df_value_text.proofs.Names.{length, ◌-◌, ◌≡◌, ◌≤◌, drop, with_front, chars_at}
use Rattle.df_value_text.proofs.words_reader.chars_at.Given as goal

-- what is left is read as all was to be
abbrev pub invariant-loop-text : goal.invariant-loop-text
invariant-loop-text l = record {
  onward : l.at ≤ l.place;
  within : l.place ≤ length l.bytes;
  rest : with_front l.text.items (chars_at (drop l.place l.bytes)) ≡ chars_at (drop l.at l.bytes);
}

abbrev pub decreases-loop-text : goal.decreases-loop-text
decreases-loop-text l = length l.bytes - l.place
