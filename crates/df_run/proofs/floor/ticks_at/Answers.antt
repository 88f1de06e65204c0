use Rattle.df_run.proofs.Names.{List, ℕ, refl, subst, a_file_is_good, header, tick_of, BlamesBytes, Command}
use Rattle.df_ticks.specs.Refusing.{IsRightRefusal}
use Rattle.df_ticks.specs.declared.ticks.TicksRefused.TheVariants.{BadTick}
use Rattle.df_run.proofs.Floors.{of_each}
use Rattle.df_run.proofs.floor.ticks_at.Goals as goal
use Rattle.df_run.specs.declared.status.BadKind.TheVariants as kind

pub returns-in-Err-clause-stops : goal.returns-in-Err-clause-stops
returns-in-Err-clause-stops g c = λ command of_floor. c.in-Err.ensures.stops command

pub returns-in-Err-BadTick-clause-stops : goal.returns-in-Err-BadTick-clause-stops
returns-in-Err-BadTick-clause-stops g c =
    let line = c.in-Err-BadTick.line in
    let refused = rw c.in-Err-BadTick.field-0-is at c.in-Err-BadTick.ensures.refused in
    let bad = subst (λ (bs : List ℕ). IsRightRefusal bs (BadTick line)) c.as_slice.ensures.value refused in
    λ command of_floor. (
      refl,
      (
        c.in-Ok.bytes.items,
        c.in-Ok.ensures.read,
        of_each (λ (k : Command). BlamesBytes k 2 c.in-Ok.bytes.items line kind.BadTick)
            (λ a b. record { bad = λ read. a_file_is_good header tick_of c.in-Ok.bytes.items read.0 line read.1 bad; place = (refl, bad) })
            (λ a b w. record { bad = λ read. a_file_is_good header tick_of c.in-Ok.bytes.items read.0 line read.1 bad; place = (refl, bad) }) command of_floor,
      ),
    )
