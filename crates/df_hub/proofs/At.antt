-- What holds of a crew holds of its origin with its journal, and what a step makes of both.
use Rattle.std.proofs.Common.{◌≡◌, ℕ, List, refl, sym, ◌∙◌, ap, subst, Option, Some, None, Ok, Err}
use Rattle.std.specs.Prelude.{IfOk, IfSome}
use mathlib.Core.List.{IsPrefix}
use Rattle.df_booking.specs.Booked.{IsCurrent, booked}
use Rattle.df_booking.specs.CrewState.{CrewState}
use Rattle.df_booking.specs.Manned.{IsFollowed}
use Rattle.df_crew.proofs.Seen.{crew_is, more_origin}
use Rattle.df_crew.specs.Booking.{IsRefused}
use Rattle.df_crew.specs.Growing.{IsMore}
use Rattle.df_crew.specs.Locally.{IsBegun}
use Rattle.df_crew.specs.Seen.{core_at, crew_at, origin_of, seen_of}
use Rattle.df_crew.specs.Since.{WasCurrent}
use Rattle.df_crew.specs.declared.crew.NotTurned.{NotTurned}
use Rattle.df_crew.specs.declared.origin.Origin.{Origin}
use Rattle.df_desk.proofs.Prefixes.{prefix_refl}
use Rattle.df_desk.specs.Pass.{DeskId, IsFree, PassState, one_more}
use Rattle.df_hub.specs.Steps.{BeganThere, IsBooked, IsCounted, IsJournal, IsStepped, TakesOnce}
use Rattle.df_hub.specs.declared.hub.Stepped.{Stepped}
use Rattle.df_rules.specs.Follows.{Brain}
use Rattle.df_turn.specs.Locally.{TurnState}
use Rattle.df_unit.specs.declared.entry.Entry.{Entry}

pub prefix_same : (xs ys : List Entry) → xs ≡ ys → IsPrefix xs ys
prefix_same xs ys e = subst (λ (zs : List Entry). IsPrefix xs zs) e (prefix_refl xs)

module _ {B : Type 0} (brain : Brain B) (o : Origin B) (seen : List Entry) (crew : CrewState B) (origin : origin_of crew ≡ o) (is : seen_of crew ≡ seen) where
  pub journal_at : IsFollowed brain crew.brains crew.core → IsJournal brain o seen
  journal_at f = subst (λ (k : CrewState B). IsFollowed brain k.brains k.core) (sym (crew_is o seen crew origin is)) f

  -- what holds of the crew holds there
  pub there : (P : CrewState B → Type 0) → P crew → P (crew_at o seen)
  there P p = subst P (sym (crew_is o seen crew origin is)) p

  pub booked_at : (t : TurnState B) (after : CrewState B) (later : List Entry) → IsCurrent brain t crew → after ≡ booked brain t crew → seen_of after ≡ later
      → IsBooked brain o t seen later
  booked_at t after later current made end = record {
    current = there (λ (k : CrewState B). IsCurrent brain t k) current;
    journal = sym end ∙ ap (λ (k : CrewState B). seen_of k) made ∙ there (λ (k : CrewState B). seen_of (booked brain t crew) ≡ seen_of (booked brain t k)) refl;
  }

-- a turn that began in what a pass had seen was current in the crew that the pass then takes
pub was_current : {B : Type 0} (brain : Brain B) (o : Origin B) (t : TurnState B) (seen : List Entry) (crew : CrewState B) → origin_of crew ≡ o
    → IsPrefix seen (seen_of crew) → (since : Option ℕ) →
    IfSome since (λ count. BeganThere brain o t count seen) → IfSome since (λ count. WasCurrent brain t count crew)
was_current brain o t seen crew origin begins None h = tt
was_current brain o t seen crew origin begins (Some count) h = record {
  before = seen;
  begins = begins;
  counted = h.counted;
  current = subst (λ (p : Origin _). IsCurrent brain t (crew_at p seen)) (sym origin) h.current;
}

-- the journal of a crew is one of its origin
pub journal_here : {B : Type 0} (brain : Brain B) (crew : CrewState B) → IsFollowed brain crew.brains crew.core
    → IsJournal brain (origin_of crew) (seen_of crew)
journal_here brain crew f = journal_at brain (origin_of crew) (seen_of crew) crew refl refl f

-- what a call appends between a take and what it gives back is one take of the pass
pub takes_once : {O E : Type 0} (desk : DeskId O) (old taken new : PassState O E) → IsPrefix old.seen taken.found → taken.takes ≡ one_more old.takes
    → taken.splits ≡ old.splits → IsFree desk new → new.found ≡ taken.found → new.takes ≡ taken.takes → new.splits ≡ taken.splits → TakesOnce desk old new
takes_once desk old taken new begins takes splits free found takes_same splits_same = record {
  free = free;
  takes = takes_same ∙ takes;
  splits = splits_same ∙ splits;
  found = rw found begins;
}

-- a step: the crew that the pass took, and the one that it gave back
module _ {B : Type 0} (brain : Brain B) (desk : DeskId (Origin B)) (t : TurnState B) (old new : PassState (Origin B) Entry) (once : TakesOnce desk old new)
    (crew after : CrewState B) (origin : origin_of crew ≡ desk.origin) (found : seen_of crew ≡ new.found) (more : IsMore crew after)
    (seen : seen_of after ≡ new.seen) (followed : IsFollowed brain after.brains after.core) where
  origin_after : origin_of after ≡ desk.origin
  origin_after = more_origin crew after more ∙ origin

  journal_after : IsJournal brain desk.origin new.seen
  journal_after = journal_at brain desk.origin new.seen after origin_after seen followed

  -- the turn was booked
  pub stepped : IsCurrent brain t crew → after ≡ booked brain t crew → (s : Stepped B) (appended entries : ℕ) → s.appended ≡ appended
      → s.entries ≡ entries → IsCounted (seen_of crew) (seen_of after) appended entries
      → IfOk s.turn (λ next. IsBegun brain desk.origin.brains (core_at desk.origin new.seen) t.unit.unit next)
      → IsStepped brain desk t old new (Ok s)
  stepped current made s appended entries appended_is entries_is counted anew = record {
    takes = once;
    journal = journal_after;
    booked = booked_at brain desk.origin new.found crew origin found t after new.seen current made seen;
    counted = record { grown = (let grown = counted.grown in cc); all = (let all = counted.all in cc) };
    anew = anew;
    refused = tt;
    unchanged = tt;
    back = tt;
  }

  -- the turn came back, and the crew was given back as it was
  pub not_stepped : after ≡ crew → (e : NotTurned B) → IsRefused e.cause brain t crew → e.turn ≡ t → IsStepped brain desk t old new (Err e)
  not_stepped same e refused back = record {
    takes = once;
    journal = journal_after;
    booked = tt;
    counted = tt;
    anew = tt;
    refused = there brain desk.origin new.found crew origin found (λ (k : CrewState B). IsRefused e.cause brain t k) refused;
    unchanged = sym seen ∙ ap (λ (k : CrewState B). seen_of k) same ∙ found;
    back = back;
  }
