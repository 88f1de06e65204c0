use Rattle.df_tables.proofs.Names.{◌≡◌, ◌<◌, length, None, refl, ap, ◌∙◌, arith, slice_get_read, slot_in}
use Rattle.df_tables.proofs.Keyed.{near_put, stray_put}
use Rattle.df_tables.proofs.event_places.EventPlaces.put_numbered.Goals as goal

pub returns-then-not-is_near-clause-put : goal.returns-then-not-is_near-clause-put
returns-then-not-is_near-clause-put c =
    let old = c.args.self.now in
    let wide = c.reach.new.near.items in
    let far = c.is_near.ensures.far c.if-not-is_near.true in
    let none : slot_in wide c.args.root c.args.number ≡ None = cc in
    stray_put old.near.items wide old.strays c.insert.new.self old.named c.args.root c.args.number c.args.place
    (λ s m. c.reach.ensures s m ∙ c.widen.ensures s m) none c.in_ok-insert.ensures.updates.0

pub returns-clause-put : goal.returns-clause-put
returns-clause-put c =
    let old = c.args.self.now in
    let wide = c.reach.new.near.items in
    let near = c.is_near.ensures.table c.if-not-is_near.false in
    let within : c.args.root < length wide = omega (arith, ap length c.as_slice.ensures.value) in
    near_put old.near.items wide c.index_mut.result.now c.put_slot.new.slots old.strays old.named c.args.root c.args.number c.args.place
    (λ s m. c.reach.ensures s m ∙ c.widen.ensures s m)
    (slice_get_read wide _ c.args.root c.index_mut.result.now refl within c.index_mut.ensures.value) c.put_slot.ensures
