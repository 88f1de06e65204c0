use Rattle.std.proofs.Common.{ap, sym, ◌∙◌}
use Rattle.df_frozen.specs.code.NameBytes.{padded, padded-take}
use Rattle.df_frozen.proofs.name.Name.head.Goals as goal

pub returns-clause-value : goal.returns-clause-value
returns-clause-value c =
    let whole = ap padded (sym c.self.view_is) ∙ padded-take c.self.inside.bytes c.self.inside.len c.self.invariant in
    rw whole c.from_be_bytes.ensures
