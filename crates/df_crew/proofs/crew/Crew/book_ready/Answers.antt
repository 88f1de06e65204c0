use Rattle.df_crew.proofs.Names.{under_way, brain_of}
use Rattle.df_crew.proofs.crew.Crew.book_ready.Goals as goal

pub book_going-requires-clause-under_way : goal.book_going-requires-clause-under_way
book_going-requires-clause-under_way g c =
    let parts = c.into_parts-base in
    under_way (brain_of g.B.StepFunction.next g.B.StepFunction.instance) c.args.self.now c.args.turn c.requires.current parts.result.base parts.result.going parts.ensures.unit
    parts.ensures.base parts.ensures.going
