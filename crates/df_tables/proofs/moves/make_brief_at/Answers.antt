use Rattle.df_tables.proofs.Alone.{made_briefly_at}
use Rattle.df_tables.proofs.moves.make_brief_at.Goals as goal

pub returns-in-Ok-clause-made : goal.returns-in-Ok-clause-made
returns-in-Ok-clause-made c =
    made_briefly_at c.args.place c.args.brief c.in-Ok.made c.index-units-place.result c.args.units.now _ c.requires.within c.in-Ok.ensures.made
