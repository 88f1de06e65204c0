use Rattle.std.proofs.Common.{◌≡◌, ◌+◌, ◌++◌, drop, length}
use Rattle.std.specs.Prelude.{vec_capacity, vec_len}
use Rattle.df_journal_text.proofs.line.put_all.Given as goal

abbrev pub invariant-loop-byte : goal.invariant-loop-byte
invariant-loop-byte l = record {
  bytes : l.to.items ++ drop l.byte-index l.bytes ≡ l.fn.to.items ++ l.bytes;
  capacity : vec_capacity l.to ≡ vec_capacity l.fn.to;
  len : vec_len l.to + length (drop l.byte-index l.bytes) ≡ vec_len l.fn.to + length l.bytes;
}
