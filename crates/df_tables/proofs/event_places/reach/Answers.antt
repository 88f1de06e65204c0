use Rattle.df_tables.proofs.Names.{◌<◌, length, refl, arith, slice_get_read}
use Rattle.df_tables.proofs.Slots.{slot_same}
use Rattle.df_tables.proofs.event_places.reach.Goals as goal

pub returns : goal.returns
returns c =
    let old = c.args.near.now.items in
    let within : c.args.root < length old = omega (arith, c.args.near.now.ok.0) in
    slot_same old c.args.root c.index_mut.result.now c.lengthen.new.slots
    (slice_get_read old _ c.args.root c.index_mut.result.now refl within c.index_mut.ensures.value) c.lengthen.ensures
