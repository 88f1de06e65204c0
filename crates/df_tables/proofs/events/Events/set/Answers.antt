use Rattle.df_tables.proofs.Names.{List, if◌then◌else◌, set, ap, sym, ◌∙◌, same_event, event_place, parts_of, EventRow}
use Rattle.df_tables.proofs.Opened.{set_places}
use Rattle.df_tables.proofs.Places.{put_at}
use Rattle.df_tables.proofs.events.Events.set.Goals as goal

pub invariant_of-self : goal.invariant_of-self
invariant_of-self c event =
    let rs = c.self.inside.rows.items in
    c.self.invariant event
    ∙ sym (ap (λ (x : EventRow). event_place event (set rs c.args.place (record { event = x.event; contents = c.args.contents }))) c.index_mut.ensures.value
    ∙ set_places event rs c.args.place c.index_mut.result.now c.args.contents)

pub returns-clause-places : goal.returns-clause-places
returns-clause-places c event =
    let rs = c.self.inside.rows.items in
    ap (λ (x : EventRow). event_place event (set rs c.args.place (record { event = x.event; contents = c.args.contents }))) c.index_mut.ensures.value
    ∙ set_places event rs c.args.place c.index_mut.result.now c.args.contents
    ∙ ap (event_place event) c.self.view_is

pub returns-clause-parts : goal.returns-clause-parts
returns-clause-parts c event h e =
    let rs = c.self.inside.rows.items in
    ap (λ (x : EventRow). parts_of e (set rs c.args.place (record { event = x.event; contents = c.args.contents }))) c.index_mut.ensures.value
    ∙ put_at event c.args.contents e rs c.args.place c.index_mut.result.now (ap (event_place event) c.self.view_is ∙ h)
    ∙ ap (λ (l : List EventRow). if same_event event e then c.args.contents else parts_of e l) c.self.view_is
