-- The units of the tests.
use Rattle.std.specs.Prelude.{◌≡◌, ℕ, false, List, refl}
use Rattle.df_brain.specs.Brain.{is_child_wanted}
use Rattle.df_filter.specs.declared.clause.Clause.{Clause}
use Rattle.df_rules.specs.Follows.{Calls, Last, Replied, Start, Wait, Want}
use Rattle.df_unit.specs.declared.call.Call.TheVariants.{AddPart, CreateEvent, Publish, SubscribeManaged}
use Rattle.tests_of_hubs.specs.declared.player.Player.{Player}
use Rattle.tests_of_hubs.specs.declared.player.Player.TheVariants.{Host, Idle}
use Rattle.tests_of_hubs.specs.declared.player.Player.TheVariants as player
use Rattle.tests_of_hubs.specs.declared.teller.Stage.{Stage}
use Rattle.tests_of_hubs.specs.declared.teller.Stage.TheVariants.{Adds, Creates, Publishes, Waits}
use Rattle.tests_of_hubs.specs.declared.teller.Teller.{Teller}

-- what a unit that tells wants, at each stage
abbrev pub wanted : Stage → Teller → Want
wanted Creates t = Calls CreateEvent
wanted Adds t = Calls (AddPart 0 t.label t.name t.value)
wanted Publishes t = Calls (Publish 0)
wanted Waits t = Wait

abbrev pub after : Stage → Stage
after Creates = Adds
after Adds = Publishes
after Publishes = Waits
after Waits = Waits

-- what it wants next, and it once it was asked
abbrev pub told : Teller → Want × Teller
told t = (wanted t.stage t, record t { stage = after t.stage })

-- what a unit with a subscription for instances wants
abbrev pub hosted : List Clause → Last → Want
hosted filter Start = Calls (SubscribeManaged filter)
hosted filter (Replied r) = Wait

abbrev pub next : Player → Last → Want × Player
next (player.Teller t) last = ((told t).0, player.Teller (told t).1)
next (Host filter) last = (hosted filter last, Host filter)
next Idle last = (Wait, Idle)

-- an instance does nothing
abbrev pub instance : Player → ℕ → Player
instance p sub = Idle

told_alone : (s : Stage) (t : Teller) → is_child_wanted (wanted s t) ≡ false
told_alone Creates t = refl
told_alone Adds t = refl
told_alone Publishes t = refl
told_alone Waits t = refl

pub makes_no_unit : (p : Player) (l : Last) → is_child_wanted (next p l).0 ≡ false
makes_no_unit (player.Teller t) l = told_alone t.stage t
makes_no_unit (Host filter) Start = refl
makes_no_unit (Host filter) (Replied r) = refl
makes_no_unit Idle l = refl
