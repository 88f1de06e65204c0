use Rattle.std.proofs.Common.{◌≡◌, ◌++◌, take}
use Rattle.df_label.specs.Spelling.{path_text}
use Rattle.df_label.proofs.spelling.append_path.Given as goal

abbrev pub invariant-loop-i : goal.invariant-loop-i
invariant-loop-i l = l.to.items ≡ l.fn.to.items ++ path_text (take l.i l.numbers)
