use Rattle.df_tables.proofs.Names.{◌≡◌, ◌++◌, ◌∷◌, [], List, if◌then◌else◌, length, Some, None, ap, sym, subst, ◌∙◌, EventName, place_at, same_key, IsPlaced, blank, event_place, Key, EventRow}
use Rattle.df_tables.proofs.Keyed.{named_by_root, numbered_key}
use Rattle.df_tables.proofs.Opened.{opened_place, placed_more}
use Rattle.df_tables.proofs.events.Events.open_numbered.Goals as goal

pub returns-in-Some-clause-place : goal.returns-in-Some-clause-place
returns-in-Some-clause-place c =
    let event = c.args.event.now in
    ap (event_place event) (sym c.self.view_is)
    ∙ sym (c.self.invariant event)
    ∙ ap (place_at c.self.inside.places) (numbered_key event c.args.root c.requires)
    ∙ sym c.in-Some.ensures

pub invariant_of-self-2 : goal.invariant_of-self-2
invariant_of-self-2 c =
    let event = c.args.event.now in
    let rs = c.self.inside.rows.items in
    let table = c.self.inside.places in
    let key = numbered_key event c.args.root c.requires in
    let none : event_place event rs ≡ None =
    sym (c.self.invariant event) ∙ ap (place_at table) key ∙ sym c.in_default.ensures in
    let more = subst (λ (e : EventName). c.add_numbered.new.rows.items ≡ rs ++ blank e ∷ []) (named_by_root event c.args.root c.requires) c.in_ok-place.ensures.rows in
    subst (λ (l : List EventRow). IsPlaced l c.add_numbered.new.places) (sym more)
    (placed_more rs table c.add_numbered.new.places event none
    (subst (λ (k : Key). (q : Key) → place_at c.add_numbered.new.places q ≡ (if same_key k q then Some (length rs) else place_at table q))
    (sym key) c.in_ok-place.ensures.places)
    c.self.invariant)

pub returns-clause-place : goal.returns-clause-place
returns-clause-place c =
    let event = c.args.event.now in
    let rs = c.self.inside.rows.items in
    let none : event_place event rs ≡ None =
    sym (c.self.invariant event) ∙ ap (place_at c.self.inside.places) (numbered_key event c.args.root c.requires) ∙ sym c.in_default.ensures in
    let more = subst (λ (e : EventName). c.add_numbered.new.rows.items ≡ rs ++ blank e ∷ []) (named_by_root event c.args.root c.requires) c.in_ok-place.ensures.rows in
    ap (event_place event) more ∙ opened_place event rs none ∙ ap Some (sym c.in_ok-place.ensures.place)
