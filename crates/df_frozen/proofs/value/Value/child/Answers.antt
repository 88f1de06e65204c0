use Rattle.std.proofs.Common.{◌∙◌, ap, sym}
use Rattle.df_frozen.specs.Plain.{from_list}
use Rattle.df_frozen.specs.Place.{item_at}
use Rattle.df_frozen.proofs.Nodes.{item_at-read, value_under-from_pairs}
use Rattle.df_frozen.proofs.value.Value.child.Goals as goal

pub returns-in-Items-At : goal.returns-in-Items-At
returns-in-Items-At c =
    rw (c.in-Items-At.is-0, c.in-Items-At.is-1) (item_at-read c.as_slice.result.now c.in-Items-At.k c.get.result c.get.ensures.lookup ∙ ap (λ l. item_at c.in-Items-At.k (from_list l)) c.as_slice.ensures)

pub returns-in-Map-Key : goal.returns-in-Map-Key
returns-in-Map-Key c =
    rw (c.in-Map-Key.is-0, c.in-Map-Key.is-1) (c.get-in-Map-Key.ensures ∙ sym (value_under-from_pairs c.in-Map-Key.name c.in-Map-Key.entries))
