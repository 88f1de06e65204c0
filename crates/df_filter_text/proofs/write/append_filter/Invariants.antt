use Rattle.std.proofs.Common.{◌≡◌, ◌++◌, take}
use Rattle.df_filter_text.specs.Filter.{filter_text}
use Rattle.df_filter_text.proofs.write.append_filter.Given as goal

abbrev pub invariant-loop-i : goal.invariant-loop-i
invariant-loop-i l = l.to.items ≡ l.fn.to.items ++ filter_text (take l.i l.clause-items)
