use Rattle.df_crew.proofs.Names.{sym, ◌∙◌, ap, CrewState, LocalState, brain_of}
use Rattle.df_crew.proofs.Began.{current_ok, kept_since, refused_short}
use Rattle.df_crew.proofs.crew.Crew.book_since.Goals as goal

pub book_there-requires : goal.book_there-requires
book_there-requires g c =
    kept_since (brain_of g.B.StepFunction.next g.B.StepFunction.instance) c.args.turn c.args.count c.args.self.now c.requires c.journal.result.now
    (c.journal.ensures.journal ∙ ap (λ (x : CrewState _). x.core.1) c.self.view_is) c.name.result.now
    (c.name.ensures ∙ ap (λ (l : LocalState). l.unit) c.unit.ensures)
    (sym c.has_entry.ensures ∙ c.if-has_entry.false)

pub returns-clause-current : goal.returns-clause-current
returns-clause-current g c =
    current_ok (brain_of g.B.StepFunction.next g.B.StepFunction.instance) c.args.turn c.args.self.now
    (kept_since (brain_of g.B.StepFunction.next g.B.StepFunction.instance) c.args.turn c.args.count c.args.self.now c.requires c.journal.result.now
    (c.journal.ensures.journal ∙ ap (λ (x : CrewState _). x.core.1) c.self.view_is) c.name.result.now
    (c.name.ensures ∙ ap (λ (l : LocalState). l.unit) c.unit.ensures)
    (sym c.has_entry.ensures ∙ c.if-has_entry.false))
    c.book_there.result

pub returns-clause-refused : goal.returns-clause-refused
returns-clause-refused g c =
    refused_short (brain_of g.B.StepFunction.next g.B.StepFunction.instance) c.args.turn c.args.self.now
    (kept_since (brain_of g.B.StepFunction.next g.B.StepFunction.instance) c.args.turn c.args.count c.args.self.now c.requires c.journal.result.now
    (c.journal.ensures.journal ∙ ap (λ (x : CrewState _). x.core.1) c.self.view_is) c.name.result.now
    (c.name.ensures ∙ ap (λ (l : LocalState). l.unit) c.unit.ensures)
    (sym c.has_entry.ensures ∙ c.if-has_entry.false))
    c.book_there.result c.book_there.ensures.short
