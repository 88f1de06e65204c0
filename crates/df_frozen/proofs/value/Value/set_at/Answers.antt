use Rattle.df_frozen.specs.Place.{set_at}
use Rattle.df_frozen.specs.Value.{plain}
use Rattle.df_frozen.specs.declared.change.Change.TheVariants.{Set}
use Rattle.df_frozen.proofs.Places.{Changes-refused}
use Rattle.df_frozen.proofs.value.Value.set_at.Goals as goal

pub returns-clause-unchanged : goal.returns-clause-unchanged
returns-clause-unchanged c =
    Changes-refused (Set c.args.v) (set_at c.args.path.now (plain c.args.v) (plain c.args.self.now)) c.args.self.now c.change_at.new.self c.change_at.result c.change_at.ensures
