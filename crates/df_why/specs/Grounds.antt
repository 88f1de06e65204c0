-- The entries of a journal on which an entry rests. The newest entry of a journal stands first, and
-- the place of an entry is the number of those before it.
use Rattle.std.specs.Prelude.{◌≡◌, ℕ, ◌<◌, Bool, true, false, not, ◌&&◌, ◌||◌, ◌==◌, nat_le, nat_lt, if◌then◌else◌, List, [], ◌∷◌, ◌++◌, length, Option, Some, None, is_none, filter_map, slice_get}
use Rattle.std.specs.List.{AllPairs, list_any}
use Rattle.df_label.specs.Tag.{maker_of}
use Rattle.df_rules.specs.Commits.{commit_of, commit_in}
use Rattle.df_rules.specs.Deliveries.{deliveries}
use Rattle.df_rules.specs.Own.{exists, fixed}
use Rattle.df_rules.specs.Received.{received}
use Rattle.df_rules.specs.Rules.{Rules}
use Rattle.df_unit.specs.Name.{same, same_event}
use Rattle.df_unit.specs.OwnState.{OwnState}
use Rattle.df_unit.specs.declared.call.Call.{Call}
use Rattle.df_unit.specs.declared.call.Call.TheVariants.{Get}
use Rattle.df_unit.specs.declared.commit.Commit.{Commit}
use Rattle.df_unit.specs.declared.entry.Entry.{Entry}
use Rattle.df_unit.specs.declared.entry.Entry.TheVariants.{Done, Emitted}
use Rattle.df_unit.specs.declared.name.EventName.{EventName}
use Rattle.df_unit.specs.declared.name.UnitName.{UnitName}
use Rattle.df_unit.specs.declared.name.UnitName.TheVariants.{Root, Managed}
use Rattle.df_unit.specs.declared.reply.Reply.{Reply}

-- whether the entry is one of the unit
abbrev pub is_of : UnitName → Entry → Bool
is_of u (Done a c r f) = same a u
is_of u (Emitted k) = false

-- whether it is a commit on the event
abbrev pub is_on : EventName → Option Commit → Bool
is_on event None = false
is_on event (Some k) = same_event k.event event

-- whether they are commits on one event
abbrev pub on_one : Option Commit → Option Commit → Bool
on_one None under = false
on_one (Some k) under = is_on k.event under

-- whether it is a get for which a delivery was there: one answered with an event, or that there was
-- no room for it
abbrev pub is_met : Call → Reply → Bool
is_met Get (Reply.Event h n) = true
is_met Get Reply.TooManyHandles = true
is_met _ _ = false

-- whether an entry, after the older ones, is one by which the unit came to be: for an instance one
-- of its owner up to that which made the subscription, or the first commit with a choice that gives
-- the instance; for a child one of its maker up to that which made it
abbrev pub makes : Rules → List OwnState → UnitName → List Entry → Entry → Bool
makes R s (Root path) older e = is_of (Root (maker_of path)) e && not (exists R s older (Root path))
makes R s (Managed o n t) older e = is_of (Root o) e && is_none (fixed R s older o n)
    || not (exists R s older (Managed o n t)) && exists R s (e ∷ older) (Managed o n t)

-- whether an entry, after the older ones, is one of the unit, or one by which it came to be
abbrev pub founds : Rules → List OwnState → UnitName → List Entry → Entry → Bool
founds R s u older e = is_of u e || makes R s u older e

-- whether the unit's delivery of a number, from 0, arises at an entry after the older ones
abbrev pub brings : Rules → List OwnState → UnitName → ℕ → List Entry → Entry → Bool
brings R s u m older e = nat_le (length (deliveries R s older u)) m
    && nat_lt m (length (deliveries R s (e ∷ older) u))

-- whether an entry, after those before it, rests on an older one: that is one of the same unit, or
-- one by which the unit came to be; it brought the delivery that a get is to take next; it is a
-- commit on the same event
abbrev pub rests : Rules → List OwnState → List Entry → Entry → List Entry → Entry → Bool
rests R s past (Done u c r f) older under = exists R s past u && founds R s u older under
    || (is_met c r && brings R s u (length (received u past)) older under
    || on_one (commit_in f) (commit_of under))
rests R s past (Emitted k) older under = is_on k.event (commit_of under)

-- the set has the place of each entry of which this is so
abbrev pub HasEach : (ℕ → Bool) → (List Entry → Entry → Bool) → List Entry → Type 0
HasEach set wanted past = (newer older : List Entry) (e : Entry) → past ≡ newer ++ e ∷ older →
    wanted older e ≡ true → set (length older) ≡ true

-- with the place of an entry the set has those of all on which the entry rests
abbrev pub IsClosed : Rules → List OwnState → (ℕ → Bool) → List Entry → Type 0
IsClosed R s set j = (newer past : List Entry) (e : Entry) → j ≡ newer ++ e ∷ past →
    set (length past) ≡ true → HasEach set (rests R s past e) past

-- the least closed set that has the place
pub record IsLeast (R : Rules) (s : List OwnState) (j : List Entry) (place : ℕ)
    (set : ℕ → Bool) : Type 0 where
  pub has : set place ≡ true
  pub closed : IsClosed R s set j
  pub least : (other : ℕ → Bool) → other place ≡ true → IsClosed R s other j → (p : ℕ) →
      set p ≡ true → other p ≡ true

-- the set of the places in a list
abbrev pub set_of : List ℕ → ℕ → Bool
set_of places p = list_any (λ q. q == p) places

abbrev pub IsBelow : ℕ → ℕ → Type 0
IsBelow p q = p < q

-- these are the places on which the entry at a place rests, and its own, in ascending order
pub record IsGrounds (R : Rules) (s : List OwnState) (j : List Entry) (place : ℕ)
    (places : List ℕ) : Type 0 where
  pub order : AllPairs IsBelow places
  pub least : IsLeast R s j place (set_of places)

-- the elements at these places
abbrev pub at_places : {A : Type 0} → List ℕ → List A → List A
at_places places xs = filter_map (λ p. slice_get xs p) places

-- the entries at the places of a set
abbrev pub chosen : (ℕ → Bool) → List Entry → List Entry
chosen set [] = []
chosen set (e ∷ past) = if set (length past) then e ∷ chosen set past else chosen set past
