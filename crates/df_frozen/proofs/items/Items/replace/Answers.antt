use Rattle.std.proofs.Common.{◌∙◌, ap, map, set}
use Rattle.std.proofs.lemmas.List.{map-set}
use Rattle.df_frozen.specs.Value.{plain}
use Rattle.df_frozen.proofs.items.Items.replace.Goals as goal

pub returns-clause-values : goal.returns-clause-values
returns-clause-values c =
    let vs = c.self.inside.values.items in
    ap (λ v. map plain (set vs c.args.k v)) c.replace.ensures.after ∙ map-set plain vs c.args.k c.args.by ∙ ap (λ l. set l c.args.k (plain c.args.by)) c.self.view_is
