use Rattle.df_tables.proofs.Names.{IfOk-weaker}
use Rattle.df_local.specs.Locally.{made_where}
use Rattle.df_tables.proofs.Closes.{closes_at}
use Rattle.df_tables.proofs.moves.close_at.Goals as goal

pub returns-clause-made : goal.returns-clause-made
returns-clause-made c =
    IfOk-weaker c.close.result _ _
    (λ is closes. closes_at c.args.place c.args.how c.args.h (made_where is c.close.new.effect) c.index-units-place.result c.args.units.now c.close.new.self c.requires.within closes)
    c.close.ensures.made
