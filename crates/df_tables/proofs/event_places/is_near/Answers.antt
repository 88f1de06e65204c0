use Rattle.df_tables.proofs.Names.{◌≤◌, length, refl, arith, ltb-false, slice_get_read, slice_get_past}
use Rattle.df_tables.proofs.Slots.{slot_nowhere, slot_past}
use Rattle.df_tables.proofs.event_places.is_near.Goals as goal

pub returns-in-Some-clause-far : goal.returns-in-Some-clause-far
returns-in-Some-clause-far c far =
    let h = c.in-Some.ensures.lookup in
    let behind = ltb-false c.args.number c.len.result far in
    let le : length c.in-Some.slots.now.items ≤ c.args.number = omega (arith, c.in-Some.slots.now.ok.0) in
    slot_past c.args.near.now c.args.root c.args.number c.in-Some.slots.now
    (slice_get_read c.args.near.now _ c.args.root c.in-Some.slots.now refl h.3.0 h.1) le

pub returns-in-None-clause-far : goal.returns-in-None-clause-far
returns-in-None-clause-far c far =
    slot_nowhere c.args.near.now c.args.root c.args.number (slice_get_past c.args.near.now c.args.root c.in-None.ensures.lookup.3)
