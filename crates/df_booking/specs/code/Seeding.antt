-- The brain with which the instances of a subscription begin, before it is made.
use Rattle.std.specs.Prelude.{◌≡◌, ◌⊎◌, ℕ, Bool, true, if◌then◌else◌, Option, Some, None}
use Rattle.df_brain.specs.Brain.{last_of}
use Rattle.df_brain.specs.declared.want.Want.{Want}
use Rattle.df_brain.specs.declared.want.Want.TheVariants as want
use Rattle.df_booking.specs.Manned.{seed_name}
use Rattle.df_booking.specs.declared.booking.Rest.{Rest}
use Rattle.df_booking.specs.declared.booking.Rest.TheVariants as rest
use Rattle.df_kept.specs.Kept.{KeptState, kept_at}
use Rattle.df_local.specs.code.LocalState.{LocalState}
use Rattle.df_rules.specs.Follows.{Brain, Last, Replied, Start}
use Rattle.df_turn.specs.declared.stage.Stage.{Stage}
use Rattle.df_turn.specs.declared.stage.Stage.TheVariants.{Answered, Told, Wants}
use Rattle.df_unit.specs.Name.{same}
use Rattle.df_unit.specs.declared.call.Call.{Call}
use Rattle.df_unit.specs.declared.call.Call.TheVariants.{Get, SubscribeManaged}
use Rattle.df_unit.specs.declared.name.UnitName.{UnitName}
use Rattle.df_unit.specs.declared.name.UnitName.TheVariants.{Managed, Root}
use Rattle.df_unit.specs.declared.reply.Reply.{Reply}

-- the unit's next subscription, if the unit is a plain one
abbrev pub next_seed : LocalState → UnitName → Option UnitName
next_seed l (Root o) = Some (seed_name o l.own.subs)
next_seed l (Managed o n t) = None

abbrev pub seed_for : LocalState → Call → Option UnitName
seed_for l (SubscribeManaged filter) = next_seed l l.unit
seed_for l _ = None

abbrev pub seed_of_want : LocalState → Want → Option UnitName
seed_of_want l (want.Call c) = seed_for l c
seed_of_want l want.Wait = None

-- the managed subscription that a turn is to make, if it is to make one
abbrev pub seed_of : LocalState → Stage → Option UnitName
seed_of l (Told t) = None
seed_of l Answered = None
seed_of l (Wants w) = seed_of_want l w

-- of each unit what was kept is kept, or of this one this brain
abbrev pub KeepsAtMost : {B : Type 0} → UnitName → B × Last → KeptState (B × Last) →
    KeptState (B × Last) → Type 0
KeepsAtMost u m old new = (n : UnitName) → (kept_at n new ≡ kept_at n old)
    ⊎ ((same u n ≡ true) × (kept_at n new ≡ Some m))

-- the brain with which its instances are to begin is kept of the subscription
abbrev pub IsSeed : {B : Type 0} → Brain B → LocalState → Stage → B → KeptState B → Type 0
IsSeed brain l s x kept = (name : UnitName) → seed_of l s ≡ Some name →
    kept_at name kept ≡ Some (brain.instance x l.own.subs)

-- that brain is kept of the subscription, and of others what was kept
pub record IsSeeded {B : Type 0} (brain : Brain B) (l : LocalState) (s : Stage) (x : B)
    (old new : KeptState B) : Type 0 where
  pub this : IsSeed brain l s x new
  pub others : (k : UnitName) → (seed_of l s ≡ Some k → ⊥) → kept_at k new ≡ kept_at k old

-- the shared call that is to follow a turn's local calls, if any: a get only where a delivery is
-- left
abbrev pub shared_by_want : Bool → Want → Option Call
shared_by_want due (want.Call c) = Some c
shared_by_want due want.Wait = if due then Some Get else None

abbrev pub shared_by : Bool → Stage → Option Call
shared_by due (Told l) = None
shared_by due Answered = None
shared_by due (Wants w) = shared_by_want due w

-- what the brain does next, from the shared call and the rest
abbrev pub back_of : Rest → Option Call → Stage
back_of (rest.Long l) shared = Told l
back_of rest.Called None = Wants want.Wait
back_of rest.Called (Some c) = Wants (want.Call c)
back_of rest.Waits shared = Wants want.Wait

-- the brain in this state behind a turn that made all its calls
abbrev pub behind : {B : Type 0} → B → Rest → Option Reply → B × Last
behind x r (Some q) = (x, Replied q)
behind x (rest.Long l) None = (x, last_of l)
behind x rest.Called None = (x, Start)
behind x rest.Waits None = (x, Start)

-- how many calls there are
abbrev pub count_of : Option Call → ℕ
count_of None = 0
count_of (Some c) = 1
