-- The links of an entry, by numbers and places.
use Rattle.std.specs.Prelude.{◌≡◌, ◌<◌, ◌++◌, ◌∷◌, ℕ, if◌then◌else◌, List, IfSome, Option, Some, None, get_or, length}
use Rattle.df_rules.specs.Received.{received}
use Rattle.df_rules.specs.Rules.{Rules}
use Rattle.df_unit.specs.OwnState.{OwnState}
use Rattle.df_unit.specs.declared.call.Call.{Call}
use Rattle.df_unit.specs.declared.entry.Effect.{Effect}
use Rattle.df_unit.specs.declared.entry.Entry.{Entry}
use Rattle.df_unit.specs.declared.entry.Entry.TheVariants.{Done}
use Rattle.df_unit.specs.declared.name.UnitName.{UnitName}
use Rattle.df_unit.specs.declared.reply.Reply.{Reply}
use Rattle.df_why.specs.code.Arising.{IsAnswer}
use Rattle.df_why.specs.declared.found.Found.{Found}
use Rattle.df_why.specs.declared.tracks.Track.{Track}
use Rattle.df_why.specs.declared.walk.Link.{Link}

abbrev pub nothing_found : Found
nothing_found = record { next = None; first = None }

abbrev pub found_at : List Found → ℕ → Found
found_at finds p = get_or finds p nothing_found

-- what is found for an entry of the unit is right
pub record IsFound (R : Rules) (s : List OwnState) (past : List Entry) (u : UnitName) (f : Found)
    : Type 0 where
  pub next_in : IfSome f.next (λ p. p < length past)
  pub first_in : IfSome f.first (λ p. p < length past)
  pub next : IsAnswer R s past u (length (received u past)) f.next
  pub first : IsAnswer R s past u 0 f.first

-- so it is of each entry of a unit: by the unit, the entries before it and its place
abbrev pub OfEntries : List Entry → (UnitName → List Entry → Type 0) → Type 0
OfEntries j P = (newer past : List Entry) (u : UnitName) (c : Call) (r : Reply) (f : Effect) →
    j ≡ newer ++ Done u c r f ∷ past → P u past

abbrev pub AreFound : Rules → List OwnState → List Entry → List Found → Type 0
AreFound R s j finds =
    OfEntries j (λ u past. IsFound R s past u (found_at finds (length past)))

abbrev pub made_for : List (Option ℕ) → Option ℕ → Option ℕ
made_for made None = None
made_for made (Some k) = get_or made k None

-- the links of an entry
abbrev pub link_of : List (Option ℕ) → Track → Found → Link
link_of made t f = record {
  actor = t.actor;
  is_there = t.is_there;
  event = t.event;
  next = if t.is_met then f.next else None;
  made = made_for made t.origin;
  first = if t.is_instance then f.first else None;
}
