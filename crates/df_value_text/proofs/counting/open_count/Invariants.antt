use Rattle.df_value_text.proofs.Names.{◌≡◌, ◌+◌, ◌≤◌, drop, open_count}
use Rattle.df_value_text.proofs.counting.open_count.Given as goal

abbrev pub invariant-loop-byte : goal.invariant-loop-byte
invariant-loop-byte l = record { same : l.count + open_count (drop l.byte-index l.text) ≡ open_count l.text; few : l.count ≤ l.byte-index }
