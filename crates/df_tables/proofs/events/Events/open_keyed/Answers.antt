use Rattle.df_tables.proofs.Names.{◌≡◌, List, if◌then◌else◌, length, Some, None, ap, sym, subst, ◌∙◌, place_at, same_key, IsPlaced, event_place, Key, EventRow}
use Rattle.df_tables.proofs.Opened.{opened_place, placed_more}
use Rattle.df_tables.proofs.events.Events.open_keyed.Goals as goal

pub invariant_of-self-2 : goal.invariant_of-self-2
invariant_of-self-2 c =
    let event = c.args.event.now in
    let rs = c.self.inside.rows.items in
    let table = c.self.inside.places in
    let none : event_place event rs ≡ None =
    sym (c.self.invariant event) ∙ ap (place_at table) (sym c.in_ok-key.ensures) ∙ sym c.in_default.ensures in
    subst (λ (l : List EventRow). IsPlaced l c.add_row.new.places) (sym c.in_ok-place.ensures.rows)
    (placed_more rs table c.add_row.new.places event none
    (subst (λ (key : Key). (q : Key) → place_at c.add_row.new.places q ≡ (if same_key key q then Some (length rs) else place_at table q))
    c.in_ok-key.ensures c.in_ok-place.ensures.places)
    c.self.invariant)

pub returns-clause-place : goal.returns-clause-place
returns-clause-place c =
    let event = c.args.event.now in
    let rs = c.self.inside.rows.items in
    let none : event_place event rs ≡ None =
    sym (c.self.invariant event) ∙ ap (place_at c.self.inside.places) (sym c.in_ok-key.ensures) ∙ sym c.in_default.ensures in
    ap (event_place event) c.in_ok-place.ensures.rows ∙ opened_place event rs none ∙ ap Some (sym c.in_ok-place.ensures.place)
