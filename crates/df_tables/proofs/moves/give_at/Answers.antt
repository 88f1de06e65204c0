use Rattle.df_tables.proofs.Names.{IfOk-weaker}
use Rattle.df_tables.proofs.Gets.{given_at}
use Rattle.df_tables.specs.Hand.{received_answer}
use Rattle.df_tables.proofs.moves.give_at.Goals as goal

pub returns-clause-given : goal.returns-clause-given
returns-clause-given c =
    IfOk-weaker c.give.result _ _
    (λ x is. given_at c.args.place (received_answer x) c.index-units-place.result c.args.units.now c.give.new.unit c.requires.within is)
    c.give.ensures.given
