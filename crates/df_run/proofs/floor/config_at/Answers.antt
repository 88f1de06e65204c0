use Rattle.df_run.proofs.Names.{List, ℕ, refl, subst, IsRightRefusal, BlamesBytes, Command}
use Rattle.df_config.specs.declared.read.ConfigRefused.TheVariants.{BadConfig}
use Rattle.df_run.proofs.Floors.{of_each}
use Rattle.df_run.proofs.floor.config_at.Goals as goal
use Rattle.df_run.specs.declared.status.BadKind.TheVariants as kind

pub returns-in-Err-clause-stops : goal.returns-in-Err-clause-stops
returns-in-Err-clause-stops g c = λ command of_floor. c.in-Err.ensures.stops command

pub returns-in-Err-BadConfig-clause-stops : goal.returns-in-Err-BadConfig-clause-stops
returns-in-Err-BadConfig-clause-stops g c =
    let refused = rw c.in-Err-BadConfig.field-0-is at c.in-Err-BadConfig.ensures.refused in
    let none = subst (λ (bs : List ℕ). IsRightRefusal bs BadConfig) c.as_slice.ensures.value refused in
    λ command of_floor. (
      refl,
      (
        c.in-Ok.bytes.items,
        c.in-Ok.ensures.read,
        of_each (λ (k : Command). BlamesBytes k 1 c.in-Ok.bytes.items 0 kind.BadConfig)
            (λ a b. record { bad = λ read. none read.0 read.1; place = (refl, refl) })
            (λ a b w. record { bad = λ read. none read.0 read.1; place = (refl, refl) }) command of_floor,
      ),
    )
