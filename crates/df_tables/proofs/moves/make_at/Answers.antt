use Rattle.df_local.specs.Locally.{told_if}
use Rattle.df_tables.proofs.Alone.{made_at}
use Rattle.df_tables.proofs.moves.make_at.Goals as goal

pub returns-in-Ok-clause-made : goal.returns-in-Ok-clause-made
returns-in-Ok-clause-made c =
    made_at c.args.place c.args.call.now (told_if c.in-Ok.made c.make_alone.new.reply) c.index-units-place.result c.args.units.now _ c.requires.within c.in-Ok.ensures.made
