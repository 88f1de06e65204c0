use Rattle.std.proofs.Common.{◌≡◌, ◌++◌, take}
use Rattle.std.specs.Prelude.{All}
use Rattle.df_label.specs.Spelling.{tags_text, AreShort}
use Rattle.df_label.proofs.spelling.append_each.Given as goal

abbrev pub invariant-loop-i : goal.invariant-loop-i
invariant-loop-i l = record {
  text : l.to.items ≡ l.fn.to.items ++ tags_text (take l.i l.tags);
  short : All AreShort (take l.i l.tags);
}
