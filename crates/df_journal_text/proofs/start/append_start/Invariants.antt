use Rattle.df_journal_text.proofs.Names.{◌≡◌, ◌++◌, drop, roots_text}
use Rattle.df_journal_text.proofs.start.append_start.Given as goal

abbrev pub invariant-loop-i : goal.invariant-loop-i
invariant-loop-i l = l.to.items ++ roots_text l.i (drop l.i l.root-items) ≡ l.fn.to.items ++ roots_text 0 l.root-items
