-- What each entry of a unit of the floor does to what it may still do, stage by stage.
use Rattle.df_settling.proofs.Names.{◌≡◌, ◌≢◌, ℕ, List, [], refl, Clause, left, OwnState, Call, CreateEvent, DropEvent, Publish, Given, UnitName, wanted_at, Heard, Kind, Stage}
use Rattle.df_rules.specs.Follows as follows
use Rattle.df_floor_units.specs.declared.stage.Stage.TheVariants as stage
use Rattle.df_settling.proofs.Roles.{Role, role_of}
use Rattle.df_settling.proofs.Unit.{At, Later, Outcome, mind_of}
use Rattle.df_settling.proofs.Events.{adds_now, creates, publishes}
use Rattle.df_settling.proofs.Hearings.{drops, drops_stopped, reads_now, rests, stops}
use Rattle.df_settling.proofs.Openings.{opens_now}
use Rattle.df_settling.proofs.Wanted.{IsNow, wants_call, wants_get}

module _ (w : Role → ℕ) (role : Role) (j : ℕ) (k : Kind) (x : Heard) (u : UnitName) (st : OwnState) (subs : List (ℕ × List Clause)) (ds : List Given)
    (plays : role_of j k ≡ role) (later : Later role subs) where
  -- what the call does at a stage
  abbrev Does : Stage → Call → Type 0
  Does g c = Outcome w role j k x u st subs ds g c

  -- it stands so
  abbrev Is : Stage → Type 0
  Is g = At role k x g u st subs

  -- a call that is wanted whatever the unit knows
  calls_now : (g : Stage) (a c : Call) → wanted_at (mind_of k x g) g ≡ follows.Calls a → IsNow k x g st ds c → Does g a → Does g c
  calls_now g a c e now does = wants_call (wanted_at (mind_of k x g) g) a c (left st ds ≢ []) (Does g) e now does

  pub unit_step : (g : Stage) (c : Call) → Is g → IsNow k x g st ds c → Does g c
  unit_step stage.Fresh c h now = absurd h
  unit_step (stage.Opens place) c h now = opens_now w role j k x u st subs ds plays later place c h now
  unit_step stage.Rests c h now = wants_get c (left st ds ≢ []) (Does stage.Rests) now (rests w role j k x u st subs ds plays later h)
  unit_step (stage.Reads n sub place) c h now = reads_now w role j k x u st subs ds plays later n sub place c h now
  unit_step (stage.Drops n) c h now = calls_now (stage.Drops n) (DropEvent n) c refl now (drops w role j k x u st subs ds plays later n h)
  unit_step stage.Creates c h now = calls_now stage.Creates CreateEvent c refl now (creates w role j k x u st subs ds plays later h)
  unit_step (stage.Adds n place) c h now = adds_now w role j k x u st subs ds plays later n place c h now
  unit_step (stage.Publishes n) c h now = calls_now (stage.Publishes n) (Publish n) c refl now (publishes w role j k x u st subs ds plays later n h)
  unit_step stage.Stopped c h now = wants_get c (left st ds ≢ []) (Does stage.Stopped) now (stops w role j k x u st subs ds plays later h)
  unit_step (stage.StoppedDrops n) c h now = calls_now (stage.StoppedDrops n) (DropEvent n) c refl now (drops_stopped w role j k x u st subs ds plays later n h)
