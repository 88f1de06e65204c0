use Rattle.std.proofs.Common.{[], ◌∷◌, ◌≤◌, arith}
use Rattle.df_value_text.proofs.WordsSteps.{text_onward}
use Rattle.df_value_text.proofs.bytes_reader.bytes_at.Goals as goal

pub returns-clause-onward : goal.returns-clause-onward
returns-clause-onward c =
    let began : c.args.at ≤ c.in_ok-start.start = text_onward c.args.bytes.now (120 ∷ 34 ∷ []) (120 ∷ 34 ∷ []) c.args.at c.in_ok-start.start c.requires
    c.in_ok-start.ensures.0 c.in_ok-start.ensures.1 in
    omega (arith, began, c.in_ok-content.ensures.onward, c.in_ok-end.ensures.onward)
