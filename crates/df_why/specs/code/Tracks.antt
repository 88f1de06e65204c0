-- What of each entry counts for others, by numbers.
use Rattle.std.specs.Prelude.{◌≡◌, ◌<◌, ℕ, zero, suc, Bool, true, false, if◌then◌else◌, List, Option, Some, None, get_or, length}
use Rattle.std.specs.Option.{option_or}
use Rattle.df_unit.specs.UnitOrder.{unit_cmp}
use Rattle.df_unit.specs.declared.entry.Effect.{Effect}
use Rattle.df_unit.specs.declared.entry.Entry.{Entry}
use Rattle.df_unit.specs.declared.entry.Entry.TheVariants.{Done, Emitted}
use Rattle.df_unit.specs.declared.name.UnitName.TheVariants.{Root, Managed}
use Rattle.df_unit.specs.declared.reply.Reply.{Reply}
use Rattle.df_why.specs.Grounds.{is_met}
use Rattle.df_why.specs.code.Names.{actor_of, event_of, key_cmp, made_of, origin_in}
use Rattle.df_why.specs.code.Numbers.{Finds, IsNumbering, KeepsNumbers}
use Rattle.df_why.specs.code.Walk.{points}
use Rattle.df_why.specs.declared.tracks.Tables.{Tables}
use Rattle.df_why.specs.declared.tracks.Track.{Track}

-- whether it is a get for which a delivery was there
abbrev pub is_met_in : Entry → Bool
is_met_in (Done u c r f) = is_met c r
is_met_in (Emitted k) = false

-- whether it is a reply to a unit that exists
abbrev pub finds_unit : Reply → Bool
finds_unit Reply.NoSuchUnit = false
finds_unit _ = true

-- whether the entry's unit exists, by the reply
abbrev pub is_there_in : Entry → Bool
is_there_in (Done u c r f) = finds_unit r
is_there_in (Emitted k) = false

-- whether the entry's unit is an instance
abbrev pub is_instance_in : Entry → Bool
is_instance_in (Done (Root path) c r f) = false
is_instance_in (Done (Managed o n t) c r f) = true
is_instance_in (Emitted k) = false

abbrev pub hands : Effect → Bool
hands Effect.Nothing = false
hands (Effect.Commit k) = false
hands (Effect.Given d) = true

-- whether the entry is handed an event
abbrev pub is_given : Entry → Bool
is_given (Done u c r f) = hands f
is_given (Emitted k) = false

pub record AreNumbered (t : Tables) : Type 0 where
  pub units : IsNumbering unit_cmp t.units
  pub events : IsNumbering key_cmp t.events
  pub origins : IsNumbering unit_cmp t.origins

pub record KeepNumbers (old new : Tables) : Type 0 where
  pub units : KeepsNumbers unit_cmp old.units new.units
  pub events : KeepsNumbers key_cmp old.events new.events
  pub origins : KeepsNumbers unit_cmp old.origins new.origins

-- the entry by numbers
pub record IsTrack (tables : Tables) (e : Entry) (t : Track) : Type 0 where
  pub actor : Finds unit_cmp tables.units (actor_of e) t.actor
  pub event : Finds key_cmp tables.events (event_of e) t.event
  pub origin : Finds unit_cmp tables.origins (origin_in e) t.origin
  pub makes : Finds unit_cmp tables.origins (made_of e) t.makes
  pub there : t.is_there ≡ is_there_in e
  pub is_instance : t.is_instance ≡ is_instance_in e
  pub met : t.is_met ≡ is_met_in e
  pub given : t.is_given ≡ is_given e

abbrev pub no_track : Track
no_track = record {
  actor = None;
  is_there = false;
  is_instance = false;
  origin = None;
  makes = None;
  event = None;
  is_met = false;
  is_given = false;
}

abbrev pub track_at : List Track → ℕ → Track
track_at tracks p = get_or tracks p no_track

-- a journal's entries by numbers, the oldest first
pub record AreTracked (tables : Tables) (tracks : List Track) (journal : List Entry)
    : Type 0 where
  pub count : length tracks ≡ length journal
  pub each : (p : ℕ) (d : Entry) → p < length journal →
      IsTrack tables (get_or journal p d) (track_at tracks p)

-- the least place below a number that passes the test
abbrev pub least_place : (ℕ → Bool) → ℕ → Option ℕ
least_place f zero = None
least_place f (suc n) = option_or (least_place f n) (if f n then Some n else None)

-- where what has a number is made first
abbrev pub makes_at : ℕ → List Track → ℕ → Option ℕ
makes_at k tracks n = least_place (λ p. points (track_at tracks p).makes k) n
