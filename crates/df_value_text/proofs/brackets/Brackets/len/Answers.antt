use Rattle.std.proofs.Common.{List, Bool, sym, ap, length, ◌∙◌}
use Rattle.df_value_text.proofs.BitsLaws.{length-bits}
use Rattle.df_value_text.proofs.brackets.Brackets.len.Goals as goal

pub returns : goal.returns
returns c = c.from.ensures ∙ sym (length-bits c.self.inside.count c.self.inside.kinds) ∙ ap (λ (bs : List Bool). length bs) c.self.view_is
