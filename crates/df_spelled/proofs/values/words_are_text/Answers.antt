use Rattle.std.proofs.Common.{subst}
use Rattle.std.specs.Prelude.{IsUtf8}
use Rattle.df_spelled.proofs.values.words_are_text.Goals as goal

pub returns : goal.returns
returns c = subst IsUtf8 c.as_str.ensures c.as_str.utf8
