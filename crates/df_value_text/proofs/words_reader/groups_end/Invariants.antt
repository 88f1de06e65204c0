use Rattle.df_value_text.proofs.Names.{length, ◌+◌, ◌-◌, ◌≡◌, ◌≤◌, drop, plain_run}
use Rattle.df_value_text.proofs.words_reader.groups_end.Given as goal

-- the bytes so far stand for themselves, and those that are left make all
abbrev pub invariant-loop-end : goal.invariant-loop-end
invariant-loop-end l = record { within : l.end ≤ length l.bytes; sum : l.end + plain_run (drop l.end l.bytes) ≡ l.at + plain_run (drop l.at l.bytes) }

abbrev pub decreases-loop-end : goal.decreases-loop-end
decreases-loop-end l = length l.bytes - l.end
