-- When the tables agree with the journal. The newest entry stands first.
use Rattle.std.specs.Prelude.{◌≡◌, ℕ, ◌≤◌, ◌<◌, ◌==◌, Bool, false, if◌then◌else◌, Option, Some, None, List, [], ◌∷◌, drop, length, slice_index_or}
use Rattle.std.specs.List.{All}
use Rattle.df_filter.specs.declared.clause.Clause.{Clause}
use Rattle.df_index.specs.Due.{Pair}
use Rattle.df_index.specs.IndexState as index
use Rattle.df_index.specs.IndexState.{IndexState}
use Rattle.df_index.specs.declared.subscription.Subscription.{Subscription}
use Rattle.df_rules.specs.Commits.{contents}
use Rattle.df_rules.specs.Deliveries.{deliveries, was_handed}
use Rattle.df_rules.specs.Legal.{Legal}
use Rattle.df_rules.specs.Own.{own, fixed}
use Rattle.df_rules.specs.Rules.{Rules}
use Rattle.df_rules.specs.Subscriptions.{subscriptions}
use Rattle.df_unit.specs.OwnState.{Fixed, OwnState}
use Rattle.df_unit.specs.declared.call.Call.{Call}
use Rattle.df_unit.specs.declared.commit.Given.{Given}
use Rattle.df_unit.specs.declared.entry.Entry.{Entry}
use Rattle.df_unit.specs.declared.name.EventName.{EventName}
use Rattle.df_unit.specs.declared.name.UnitName.{UnitName}
use Rattle.df_unit.specs.declared.name.UnitName.TheVariants.{Managed, Root}
use Rattle.df_unit.specs.declared.reply.Reply.{Reply}
use Rattle.df_tables.specs.Events.{event_place}
use Rattle.df_tables.specs.Hand.{IsCalm}
use Rattle.df_tables.specs.Table.{find, parts_of, place_of}
use Rattle.df_tables.specs.declared.events.EventRow.{EventRow}
use Rattle.df_tables.specs.declared.units.Unit.{Unit}

-- the index of ordinary subscriptions
abbrev pub FilterIndex : Type 0
FilterIndex = IndexState (List Clause)

-- the row of the unit, with its own state and its deliveries
pub record IsRow (n : UnitName) (st : OwnState) (ds : List Given) (u : Unit) : Type 0 where
  pub unit : u.local.unit ≡ n
  pub own : u.local.own ≡ st
  pub left : u.line.left ≡ drop st.given ds
  pub taken : st.given ≤ length ds

-- a unit has a row exactly where it exists
abbrev pub IsSeat : UnitName → Option OwnState → List Given → Option Unit → Type 0
IsSeat n None ds None = ds ≡ []
IsSeat n (Some st) ds (Some u) = IsRow n st ds u
IsSeat n None ds (Some u) = ⊥
IsSeat n (Some st) ds None = ⊥

-- the subscriptions of the unit at a place, each a number and a filter, the oldest first
abbrev pub subscriptions_at : ℕ → List (Subscription (List Clause)) → List (ℕ × List Clause)
subscriptions_at k [] = []
subscriptions_at k (s ∷ ss) =
    if s.unit == k then (s.sub, s.filter) ∷ subscriptions_at k ss else subscriptions_at k ss

-- the subscriptions of the unit whose place is this, if there is one
abbrev pub subscribed_at : Option ℕ → List (Subscription (List Clause)) → List (ℕ × List Clause)
subscribed_at None enrolled = []
subscribed_at (Some k) enrolled = subscriptions_at k enrolled

-- the subscription, if one is made, of the unit whose place is this
abbrev pub enrols : Option ℕ → Option (ℕ × List Clause) → List (Subscription (List Clause))
enrols None made = []
enrols (Some k) None = []
enrols (Some k) (Some sub) = record { unit = k; sub = sub.0; filter = sub.1 } ∷ []

-- whether the event at a place, if there is one, is marked as handed to a subscription of the unit
-- at a place, if there is one
abbrev pub is_marked : List (List Pair) → Option ℕ → Option ℕ → ℕ → Bool
is_marked handed None event n = false
is_marked handed (Some k) None n = false
is_marked handed (Some k) (Some event) n = index.was_handed handed event (k, n)

-- what the tables tell of managed subscriptions, by owner and number, and to which instances an
-- event was handed, both by their places
pub record ManagedState : Type 0 where
  pub kept : List ℕ → ℕ → Option Fixed
  pub told : ℕ → ℕ → Bool

-- whether the event at a place, if there is one, was handed to the instance at a place, if there is
-- one
abbrev pub is_told : (ℕ → ℕ → Bool) → Option ℕ → Option ℕ → Bool
is_told told None place = false
is_told told (Some event) None = false
is_told told (Some event) (Some place) = told event place

-- the journal is legal, each unit's row tells of its own state and its deliveries, the index of its
-- subscriptions and of what was handed to plain units, the records of managed subscriptions, the
-- marks of what was handed to instances, and each event's row of its parts
pub record Agrees (R : Rules) (s : List OwnState) (past : List Entry) (units : List Unit)
    (events : List EventRow) (x : FilterIndex) (m : ManagedState) : Type 0 where
  pub legal : Legal R s past
  pub seats : (n : UnitName) →
      IsSeat n (own R s past n) (deliveries R s past n) (find n units)
  pub subscribed : (n : UnitName) →
      subscribed_at (place_of n units) x.enrolled ≡ subscriptions R s past n
  pub marked : (path : List ℕ) (event : EventName) (sub : ℕ) →
      is_marked x.handed (place_of (Root path) units) (event_place event events) sub
      ≡ was_handed (deliveries R s past (Root path)) event sub
  pub parts : (event : EventName) → parts_of event events ≡ contents past event
  pub kept : (o : List ℕ) (n : ℕ) → m.kept o n ≡ fixed R s past o n
  pub told : (o : List ℕ) (n : ℕ) (t : List (List ℕ)) (event : EventName) →
      is_told m.told (event_place event events) (place_of (Managed o n t) units)
      ≡ was_handed (deliveries R s past (Managed o n t)) event n

-- each row is the first of its unit
abbrev pub AreApart : List Unit → Type 0
AreApart us = (k : ℕ) (d : Unit) → k < length us →
    place_of (slice_index_or us k d).local.unit us ≡ Some k

-- no unit has two rows, nothing is staged, each subscription is of a row, and no event without a
-- row is marked, nor any event for who has no row
pub record IsWhole (units : List Unit) (events : List EventRow) (x : FilterIndex) : Type 0 where
  pub apart : AreApart units
  pub calm : All IsCalm units
  pub enrolled : All (λ s. s.unit < length units) x.enrolled
  pub fresh : (event : ℕ) (p : Pair) → length events ≤ event →
      index.was_handed x.handed event p ≡ false
  pub seated : (event : ℕ) (p : Pair) → length units ≤ p.0 →
      index.was_handed x.handed event p ≡ false

-- no event without a row is told as handed to an instance, nor any event to who has no row
pub record AreWithin (units : List Unit) (events : List EventRow) (told : ℕ → ℕ → Bool)
    : Type 0 where
  pub fresh : (event place : ℕ) → length events ≤ event → told event place ≡ false
  pub seated : (event place : ℕ) → length units ≤ place → told event place ≡ false

-- a call with this reply makes no managed subscription
abbrev pub MakesNoManaged : Rules → Call → Reply → Type 0
MakesNoManaged R c r = (st : OwnState) (n : ℕ) → R.fixes st n c r ≡ None

-- a call with this reply makes no unit
abbrev pub MakesNoUnit : Rules → Call → Reply → Type 0
MakesNoUnit R c r = (st : OwnState) (k : ℕ) → R.makes st k c r ≡ None
