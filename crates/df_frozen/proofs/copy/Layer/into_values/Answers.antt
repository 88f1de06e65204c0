use Rattle.std.proofs.Common.{ap}
use Rattle.df_frozen.specs.Plain.{items, from_list}
use Rattle.df_frozen.proofs.Copies.{items_whole}
use Rattle.df_frozen.proofs.copy.Layer.into_values.Goals as goal

pub returns : goal.returns
returns c =
    let copied = rw c.in-Items.is at c.requires.copied in
    let whole = rw c.in-Items.is at c.requires.whole in
    rw c.in-Items.is (ap (λ l. items (from_list l)) (items_whole c.in-Items.made.items c.in-Items.from.now copied whole))
