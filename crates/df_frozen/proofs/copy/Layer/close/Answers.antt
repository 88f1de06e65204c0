use Rattle.std.proofs.Common.{◌∙◌, ap}
use Rattle.df_frozen.specs.Plain.{items, entries, from_list, from_pairs}
use Rattle.df_frozen.proofs.Copies.{items_whole, entries_whole, ascending_whole}
use Rattle.df_frozen.proofs.copy.Layer.close.Goals as goal

pub from_ascending-requires : goal.from_ascending-requires
from_ascending-requires c =
    let copied = rw c.in-Map.is at c.requires.copied in
    ascending_whole c.in-Map.made.items c.in-Map.from.now (entries_whole c.in-Map.made.items c.in-Map.from.now copied.0 (rw c.in-Map.is at c.requires.whole)) copied.1

pub returns-in-Items : goal.returns-in-Items
returns-in-Items c =
    let copied = rw c.in-Items.is at c.requires.copied in
    let whole = rw c.in-Items.is at c.requires.whole in
    rw c.in-Items.is (ap (λ l. items (from_list l)) (c.from_values.ensures ∙ items_whole c.in-Items.made.items c.in-Items.from.now copied whole))

pub returns-in-Map : goal.returns-in-Map
returns-in-Map c =
    let copied = rw c.in-Map.is at c.requires.copied in
    let whole = rw c.in-Map.is at c.requires.whole in
    rw c.in-Map.is (ap (λ l. entries (from_pairs l)) (c.from_ascending.ensures ∙ entries_whole c.in-Map.made.items c.in-Map.from.now copied.0 whole))
