use Rattle.std.proofs.Common.{◌≡◌, ◌++◌, take, codes}
use Rattle.df_value_text.proofs.Names.{flat_map, escaped}
use Rattle.df_value_text.proofs.value.append_words.Given as goal

abbrev pub invariant-loop-byte : goal.invariant-loop-byte
invariant-loop-byte l = l.to.items ≡ l.fn.to.items ++ (codes "\"" ++ flat_map escaped (take l.byte-index l.text))
