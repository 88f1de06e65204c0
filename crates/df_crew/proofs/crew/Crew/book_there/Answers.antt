use Rattle.df_crew.proofs.Names.{brain_of}
use Rattle.df_crew.proofs.Growing.{more_booked}
use Rattle.df_crew.proofs.crew.Crew.book_there.Goals as goal

pub returns-in-Ok-clause-more : goal.returns-in-Ok-clause-more
returns-in-Ok-clause-more g c =
    more_booked (brain_of g.B.StepFunction.next g.B.StepFunction.instance) c.args.turn c.args.self.now c.book_current.new.self c.in-Ok.ensures.ok
