use Rattle.df_journal_text.proofs.Names.{◌≡◌, ◌++◌, take, flat_map, read_line}
use Rattle.df_journal_text.proofs.effect.append_reads.Given as goal

abbrev pub invariant-loop-part : goal.invariant-loop-part
invariant-loop-part l = l.to.items ≡ l.fn.to.items ++ flat_map read_line (take l.part-index l.parts)
