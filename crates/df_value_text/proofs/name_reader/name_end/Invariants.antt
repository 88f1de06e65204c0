use Rattle.df_value_text.proofs.Names.{length, ◌+◌, ◌-◌, ◌≡◌, ◌≤◌, drop, name_bytes}
use Rattle.df_value_text.proofs.name_reader.name_end.Given as goal

-- what is counted so far, and what is left to count, make all
abbrev pub invariant-loop-count : goal.invariant-loop-count
invariant-loop-count l = record {
  few : l.count ≤ 31;
  within : l.at + l.count ≤ length l.bytes;
  sum : l.count + name_bytes (31 - l.count) (drop (l.at + l.count) l.bytes) ≡ name_bytes 31 (drop l.at l.bytes);
}

abbrev pub decreases-loop-count : goal.decreases-loop-count
decreases-loop-count l = length l.bytes - (l.at + l.count)
