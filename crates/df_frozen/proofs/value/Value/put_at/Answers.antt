use Rattle.df_frozen.specs.Place.{put_at}
use Rattle.df_frozen.specs.Value.{plain}
use Rattle.df_frozen.specs.declared.change.Change.TheVariants.{Put}
use Rattle.df_frozen.proofs.Places.{Changes-refused}
use Rattle.df_frozen.proofs.value.Value.put_at.Goals as goal

pub returns-clause-unchanged : goal.returns-clause-unchanged
returns-clause-unchanged c =
    Changes-refused (Put c.args.key c.args.v) (put_at c.args.path.now c.args.key (plain c.args.v) (plain c.args.self.now)) c.args.self.now c.change_at.new.self c.change_at.result c.change_at.ensures
