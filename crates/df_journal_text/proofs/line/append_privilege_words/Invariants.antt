use Rattle.df_journal_text.proofs.Names.{◌≡◌, ◌++◌, take, map, privilege_text, spaced}
use Rattle.df_journal_text.proofs.line.append_privilege_words.Given as goal

abbrev pub invariant-loop-privilege : goal.invariant-loop-privilege
invariant-loop-privilege l = l.to.items ≡ l.fn.to.items ++ spaced (map privilege_text (take l.privilege-index l.privileges))
