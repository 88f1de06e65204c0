use Rattle.std.proofs.Common.{◌∙◌, sym, ap, refl}
use Rattle.df_frozen.specs.code.Counting.{rows_of}
use Rattle.df_frozen.proofs.Counts.{rows_of-push, pushed-item}
use Rattle.df_frozen.proofs.count.push_row.Goals as goal

pub returns-in_default : goal.returns-in_default
returns-in_default c = rw c.in_default.ensures refl

pub returns : goal.returns
returns c =
    ap rows_of c.in_ok-push.ensures.items ∙ rows_of-push _ _ ∙ sym (pushed-item _ _ _ _ _ c.in-Some.ensures)
