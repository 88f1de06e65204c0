-- What the code's actions mean.
use Rattle.std.specs.Prelude.{Bool, true, false}
use Rattle.df_floor_units.specs.Floor.{Follow, Goes, Takes, Hears, Acts, Passes}
use Rattle.df_floor_units.specs.declared.action.Action.{Action}
use Rattle.df_floor_units.specs.declared.stage.Stage.{Stage}
use Rattle.df_floor_units.specs.declared.stage.Stage.TheVariants as stage
use Rattle.df_floor_units.specs.declared.action.Action.TheVariants as action

-- what an action is
abbrev pub follow : Action → Follow
follow (action.Goes s) = Goes s
follow (action.Takes h sub) = Takes h sub
follow (action.Hears h sub place parts) = Hears h sub place parts.now
follow action.Acts = Acts
follow action.Passes = Passes

-- whether memory is taken to say what is wanted at a stage
abbrev pub takes_memory : Stage → Bool
takes_memory (stage.Opens place) = true
takes_memory (stage.Adds h place) = true
takes_memory _ = false
