use Rattle.df_journal_text.proofs.Names.{take, IsAscending, privilege_cmp}
use Rattle.df_journal_text.proofs.word_reader.are_ascending.Given as goal

abbrev pub invariant-loop-i : goal.invariant-loop-i
invariant-loop-i l = IsAscending privilege_cmp (take l.i l.privileges)
