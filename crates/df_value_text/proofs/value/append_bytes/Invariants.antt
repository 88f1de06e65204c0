use Rattle.std.proofs.Common.{◌≡◌, ◌++◌, take, codes}
use Rattle.df_value_text.proofs.Names.{flat_map, hex}
use Rattle.df_value_text.proofs.value.append_bytes.Given as goal

abbrev pub invariant-loop-byte : goal.invariant-loop-byte
invariant-loop-byte l = l.to.items ≡ l.fn.to.items ++ (codes "x\"" ++ flat_map hex (take l.byte-index l.bytes))
