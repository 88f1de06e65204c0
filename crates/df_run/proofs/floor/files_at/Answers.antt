use Rattle.df_run.proofs.Names.{subst, StopsAt, OfRead, IsTickFile, texts}
use Rattle.df_run.proofs.Floors.{config_good, first_stops, second_stops, told_again}
use Rattle.df_run.proofs.floor.files_at.Goals as goal

pub returns-in-Err-clause-stops : goal.returns-in-Err-clause-stops
returns-in-Err-clause-stops g c = λ command of_floor. first_stops command _ _ _ _ c.in-Err.status (c.in-Err.ensures.stops command of_floor)

pub returns-in-Err-ticks_at-clause-stops : goal.returns-in-Err-ticks_at-clause-stops
returns-in-Err-ticks_at-clause-stops g c =
    let same = told_again _ _ (texts c.args.words.now) c.args.second c.in-Ok.ensures.same in
    λ command of_floor. second_stops command _ _ _ _ _ c.in-Err-ticks_at.status
    (config_good command of_floor _ c.in-Ok.config c.in-Ok.ensures.read) c.in-Ok.ensures.never_falls
    (subst (λ told. StopsAt command 2 told (g.F.Shelf.faults c.config_at.new.shelf) (g.F.Shelf.faults c.ticks_at.new.shelf) c.in-Err-ticks_at.status) same
    (c.in-Err-ticks_at.ensures.stops command of_floor))

pub returns-in-Ok-ticks_at-clause-ticks : goal.returns-in-Ok-ticks_at-clause-ticks
returns-in-Ok-ticks_at-clause-ticks g c =
    let same = told_again _ _ (texts c.args.words.now) c.args.second c.in-Ok.ensures.same in
    subst (λ told. OfRead told (λ bytes. IsTickFile bytes c.in-Ok-ticks_at.ticks.items)) same c.in-Ok-ticks_at.ensures.read
