use Rattle.df_tables.proofs.Names.{◌≡◌, List, Some, ap, subst, ◌∙◌, event_place, parts_of, EventRow}
use Rattle.df_tables.proofs.Opened.{parts_at}
use Rattle.df_tables.proofs.events.Events.contents.Goals as goal

pub returns : goal.returns
returns c event =
    subst (λ (rs : List EventRow). event_place event rs ≡ Some c.args.place → c.index.result.now.contents ≡ parts_of event rs) c.self.view_is
    (λ h. ap (λ (r : EventRow). r.contents) c.index.ensures ∙ parts_at event c.self.inside.rows.items c.args.place c.index.result.now h)
