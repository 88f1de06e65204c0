-- What a turn's booking makes of its unit's brain.
use Rattle.std.specs.Prelude.{◌≡◌, Bool, false, not, List, Option, Some, None}
use Rattle.df_brain.specs.Brain.{last_of}
use Rattle.df_brain.specs.declared.want.Want.TheVariants as want
use Rattle.df_booking.specs.CrewState.{mind_in}
use Rattle.df_booking.specs.code.Seeding.{shared_by}
use Rattle.df_machine.specs.Booking.{reply_booked}
use Rattle.df_machine.specs.Journal.{State, has_delivery_in, local_of}
use Rattle.df_rules.specs.Follows.{Brain, Last, Replied, Start}
use Rattle.df_turn.specs.code.Going.{IsGoing, now_of}
use Rattle.df_turn.specs.declared.going.Going.{Going}
use Rattle.df_turn.specs.declared.stage.Stage.{Stage}
use Rattle.df_turn.specs.declared.stage.Stage.TheVariants.{Answered, Told, Wants}
use Rattle.df_unit.specs.declared.call.Call.{Call}
use Rattle.df_unit.specs.declared.reply.Reply.{Reply}

-- the shared call that is to follow a turn's local calls here, if any
abbrev pub shared_of : {B : Type 0} → Going B → State → Option Call
shared_of g core = shared_by (has_delivery_in core g.run.base.unit) g.stage

-- the reply to that call, if it is made
abbrev pub reply_of : {B : Type 0} → Going B → State → Option Reply
reply_of g core = reply_booked g.run (shared_of g core) core

-- whether a brain waits at this stage, and no delivery is left
abbrev pub is_rest : Bool → Stage → Bool
is_rest due (Told l) = false
is_rest due Answered = false
is_rest due (Wants (want.Call c)) = false
is_rest due (Wants want.Wait) = not due

-- the brain in this state, once it was told the reply, or what it was to be told
abbrev pub left_by : {B : Type 0} → B → Stage → Option Reply → B × Last
left_by x s (Some q) = (x, Replied q)
left_by x (Told l) None = (x, last_of l)
left_by x Answered None = (x, Start)
left_by x (Wants w) None = (x, Start)

-- the brain behind a turn: where a shared call was replied to, it has gone on
abbrev pub mind_after : {B : Type 0} → B × Last → B → Option Reply → B × Last
mind_after m x None = m
mind_after m x (Some q) = (x, Replied q)

-- the brain behind a turn that is booked here
abbrev pub mind_behind : {B : Type 0} → Brain B → B × Last → Going B → State → B × Last
mind_behind brain m g core = mind_after (now_of brain m g) g.state (reply_of g core)

-- the turn is under way, and its unit and brain are here as it began
pub record IsUnderWay {B : Type 0} (brain : Brain B) (bs : List B) (m : B × Last) (g : Going B)
    (core : State) : Type 0 where
  pub going : IsGoing brain m g
  pub unit : local_of core g.run.base.unit ≡ Some g.run.base
  pub mind : mind_in brain bs core g.run.base.unit ≡ Some m
