-- A turn under way.
use Rattle.std.specs.Prelude.{◌≡◌, ◌≤◌, ◌<◌, ◌-◌, ◌*◌, ℕ, Bool, true, List, [], ◌∷◌, Option, Some, None, length, slice_get}
use Rattle.df_brain.specs.Brain.{last_of, want_of}
use Rattle.df_brain.specs.declared.want.Want.TheVariants.{Call as Calls}
use Rattle.df_local_run.specs.RunState.{RunState}
use Rattle.df_local_run.specs.Runs.{called}
use Rattle.df_rules.specs.Follows.{Brain, Last, Replied, Start}
use Rattle.df_turn.specs.Locally.{RunsTo, most_local, wants_local}
use Rattle.df_turn.specs.declared.going.Going.{Going}
use Rattle.df_turn.specs.declared.stage.Stage.{Stage}
use Rattle.df_turn.specs.declared.stage.Stage.TheVariants.{Answered, Told, Wants}
use Rattle.df_unit.specs.declared.entry.Entry.{Entry}
use Rattle.df_unit.specs.declared.entry.Entry.TheVariants.{Done, Emitted}

-- the brain, once it was told the replies of its entries in turn
abbrev pub led : {B : Type 0} → Brain B → List Entry → B × Last → B × Last
led brain [] m = m
led brain (Done a c r f ∷ es) m = led brain es ((brain.next m.0 m.1).1, Replied r)
led brain (Emitted c ∷ es) m = led brain es m

-- whether a turn can go on: the brain is to be asked, or wants a local call
abbrev pub goes_on : Stage → Bool
goes_on (Told l) = true
goes_on Answered = true
goes_on (Wants w) = wants_local (want_of w)

-- the local call that is wanted is made
abbrev pub IsTaken : RunState → RunState → Stage → Type 0
IsTaken old new (Wants (Calls c)) = new ≡ called old c
IsTaken old new _ = ⊥

-- what a brain is told behind an entry
abbrev pub told_by_entry : Option Entry → Last
told_by_entry None = Start
told_by_entry (Some (Done a c r f)) = Replied r
told_by_entry (Some (Emitted c)) = Start

-- what a brain is told behind the newest of these entries
abbrev pub told_behind : List Entry → Last
told_behind es = told_by_entry (slice_get es (length es - 1))

-- the brain is told this next, or it was asked, and this is the want and the state behind it
abbrev pub IsAt : {B : Type 0} → Brain B → B × Last → List Entry → B → Stage → Type 0
IsAt brain m es x (Told l) = m ≡ (x, last_of l)
IsAt brain m es x Answered = m ≡ (x, told_behind es)
IsAt brain m es x (Wants w) =
    ((want_of w, x) ≡ brain.next m.0 m.1) × (length es < most_local)

-- the brain behind the local calls of a turn
abbrev pub now_of : {B : Type 0} → Brain B → B × Last → Going B → B × Last
now_of brain m g = led brain g.run.entries m

-- the local calls are those that the brain wants, which began in this way
pub record IsGoing {B : Type 0} (brain : Brain B) (m : B × Last) (g : Going B) : Type 0 where
  pub run : RunsTo brain g.run.entries g.run.base m g.run.present (now_of brain m g)
  pub few : length g.run.entries ≤ most_local
  pub at : IsAt brain (now_of brain m g) g.run.entries g.state g.stage

-- what the brain is told next is there, if it is to be told something
abbrev pub IsSettled : Stage → Type 0
IsSettled Answered = ⊥
IsSettled _ = Unit

-- no local call is left to make
pub record IsEnded {B : Type 0} (g : Going B) : Type 0 where
  pub full : goes_on g.stage ≡ true → length g.run.entries ≡ most_local
  pub settled : IsSettled g.stage

abbrev pub steps_made : Stage → ℕ
steps_made (Told l) = 0
steps_made Answered = 0
steps_made (Wants w) = 1

-- how many more steps there are at most
abbrev pub steps_left : {B : Type 0} → Going B → ℕ
steps_left g = 2 * (most_local - length g.run.entries) - steps_made g.stage
