-- What a unit's step function wants by the replies to the unit so far, and when a journal follows
-- the step functions.
use Rattle.std.specs.Prelude.{◌≡◌, ◌≢◌, ◌⊎◌, ⊤, ℕ, suc, Bool, true, false, ◌||◌, if◌then◌else◌, slice_get, List, [], ◌∷◌, Option, Some, None}
use Rattle.std.specs.Option.{option_map}
use Rattle.df_rules.specs.Deliveries.{deliveries}
use Rattle.df_rules.specs.Exercised.{before_fixed}
use Rattle.df_rules.specs.Legal.{left}
use Rattle.df_rules.specs.Own.{own}
use Rattle.df_rules.specs.Rules.{Rules}
use Rattle.df_unit.specs.Name.{same}
use Rattle.df_unit.specs.OwnState.{OwnState}
use Rattle.df_unit.specs.declared.call.Call.{Call}
use Rattle.df_unit.specs.declared.entry.Entry.{Entry}
use Rattle.df_unit.specs.declared.entry.Entry.TheVariants.{Done, Emitted}
use Rattle.df_unit.specs.declared.name.UnitName.{UnitName}
use Rattle.df_unit.specs.declared.name.UnitName.TheVariants.{Root, Managed}
use Rattle.df_unit.specs.declared.reply.Reply.{Reply}

-- what a step function is told: that the unit starts, or the last reply to it
pub data Last : Type 0 where
  Start : Last
  Replied : Reply → Last

-- what it wants: a call, or a get once there is a delivery
pub data Want : Type 0 where
  Calls : Call → Want
  Wait : Want

-- step functions with states of type B
pub record Brain (B : Type 0) : Type 0 where
  -- what is wanted, and the state after it
  pub next : B → Last → Want × B
  -- the state with which the instances of a managed subscription begin
  pub instance : B → ℕ → B

-- the replies to a unit, the newest first
abbrev pub replies_of : UnitName → List Entry → List Reply
replies_of u [] = []
replies_of u (Done a c r f ∷ past) = if same a u then r ∷ replies_of u past else replies_of u past
replies_of u (Emitted c ∷ past) = replies_of u past

abbrev pub last_of : List Reply → Last
last_of [] = Start
last_of (r ∷ rs) = Replied r

-- the state in which the next call is wanted, after these replies
abbrev pub state_after : {B : Type 0} → Brain B → B → List Reply → B
state_after brain x [] = x
state_after brain x (r ∷ rs) = (brain.next (state_after brain x rs) (last_of rs)).1

-- what is wanted after these replies, and the state after it
abbrev pub wanted : {B : Type 0} → Brain B → B → List Reply → Want × B
wanted brain x rs = brain.next (state_after brain x rs) (last_of rs)

-- the state with which a root's step function began; a child has none
abbrev pub root_began : {B : Type 0} → List B → List ℕ → Option B
root_began bs [] = None
root_began bs (k ∷ []) = slice_get bs k
root_began bs (k ∷ m ∷ path) = None

-- the state with which a unit's step function began: an instance's is the owner's, right after it
-- wanted the subscription
abbrev pub began_with : {B : Type 0} → Brain B → Rules → List OwnState → List B → List Entry →
    UnitName → Option B
began_with brain R s bs past (Root path) = root_began bs path
began_with brain R s bs past (Managed o n t) =
    option_map (λ x. brain.instance (wanted brain x
    (replies_of (Root o) (before_fixed R s past o n))).1 n) (root_began bs o)

-- the unit's call is the one that is wanted, or a get where the unit waits and a delivery is left
pub record IsWanted {B : Type 0} (brain : Brain B) (R : Rules) (s : List OwnState) (bs : List B)
    (past : List Entry) (u : UnitName) (c : Call) (st : OwnState) (x : B) : Type 0 where
  pub own : own R s past u ≡ Some st
  pub begun : began_with brain R s bs past u ≡ Some x
  pub call : ((wanted brain x (replies_of u past)).0 ≡ Calls c)
      ⊎ (((wanted brain x (replies_of u past)).0 ≡ Wait) × (c ≡ Call.Get)
      × (left st (deliveries R s past u) ≢ []))

abbrev pub EntryFollows : {B : Type 0} → Brain B → Rules → List OwnState → List B → List Entry →
    Entry → Type 0
EntryFollows brain R s bs past (Done u c r f) =
    (st : OwnState) × (x : _) × IsWanted brain R s bs past u c st x
EntryFollows brain R s bs past (Emitted c) = ⊤

-- each entry of a unit is one that its step function wants
abbrev pub Follows : {B : Type 0} → Brain B → Rules → List OwnState → List B → List Entry → Type 0
Follows brain R s bs [] = ⊤
Follows brain R s bs (e ∷ past) = Follows brain R s bs past × EntryFollows brain R s bs past e

-- the unit waits, and no delivery is left to it
pub record IsAtRest {B : Type 0} (brain : Brain B) (R : Rules) (s : List OwnState) (bs : List B)
    (past : List Entry) (u : UnitName) (st : OwnState) (x : B) : Type 0 where
  pub begun : began_with brain R s bs past u ≡ Some x
  pub waits : (wanted brain x (replies_of u past)).0 ≡ Wait
  pub none_left : left st (deliveries R s past u) ≡ []

-- each unit that exists is at rest
abbrev pub Quiet : {B : Type 0} → Brain B → Rules → List OwnState → List B → List Entry → Type 0
Quiet brain R s bs past = (u : UnitName) (st : OwnState) → own R s past u ≡ Some st → (x : _)
    × IsAtRest brain R s bs past u st x

abbrev pub is_of : UnitName → Entry → Bool
is_of u (Done a c r f) = same a u
is_of u (Emitted c) = false

abbrev pub has_entry : UnitName → List Entry → Bool
has_entry u [] = false
has_entry u (e ∷ past) = is_of u e || has_entry u past

-- each root but the first waits
abbrev pub OthersWait : {B : Type 0} → Brain B → List B → List Entry → Type 0
OthersWait {B} brain bs past = (k : ℕ) (x : B) → slice_get bs (suc k) ≡ Some x →
    (wanted brain x (replies_of (Root (suc k ∷ [])) past)).0 ≡ Wait

-- each root but the first waits before the first root's first entry
abbrev pub Opens : {B : Type 0} → Brain B → List B → List Entry → Type 0
Opens brain bs [] = ⊤
Opens brain bs (e ∷ past) = Opens brain bs past
    × (is_of (Root (0 ∷ [])) e ≡ true → has_entry (Root (0 ∷ [])) past ≡ false →
    OthersWait brain bs past)

abbrev pub brain_of : {B : Type 0} → (B → Last → Want × B) → (B → ℕ → B) → Brain B
brain_of next instance = record { next = next; instance = instance }
