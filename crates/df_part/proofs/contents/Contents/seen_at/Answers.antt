use Rattle.std.proofs.Common.{◌≡◌, IfOk, List, ap, subst, sym, ◌∙◌}
use Rattle.std.specs.List.{list_all}
use Rattle.df_part.specs.Part.{readable}
use Rattle.df_part.specs.declared.part.Part.{Part}
use Rattle.df_part.proofs.Shares.{all_readable}
use Rattle.df_part.proofs.contents.Contents.seen_at.Goals as goal

pub returns-then-are_readable : goal.returns-then-are_readable
returns-then-are_readable c =
    let told = c.are_readable.ensures ∙ ap (λ (ps : List Part). list_all (readable c.args.at.now) ps) c.parts.ensures in
    let same = all_readable c.args.at.now c.args.self.now (sym told ∙ c.if-are_readable.true) in
    subst (λ (ps : List Part). IfOk c.copy.result (λ x. x ≡ ps)) (c.self.view_is ∙ sym same) c.copy.ensures
