use Rattle.df_value_text.proofs.Names.{◌≡◌, take, list_all, is_plain}
use Rattle.df_value_text.proofs.words_reader.are_plain.Given as goal

abbrev pub invariant-loop-byte : goal.invariant-loop-byte
invariant-loop-byte l = record { so_far : l.plain ≡ list_all is_plain (take l.byte-index l.group) }
