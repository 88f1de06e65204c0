-- What receivers are handed, row by row.
use Rattle.std.specs.Prelude.{◌≡◌, ℕ, zero, suc, ◌<◌, ◌==◌, true, List, [], ◌∷◌, ◌++◌, Option, None, Some, map, length, slice_index_or}
use Rattle.std.specs.List.{filter}
use Rattle.df_index.specs.Due.{Pair}
use Rattle.df_label.specs.declared.label.Label.{Label}
use Rattle.df_local.specs.Locally.{TellsEffect, is_alone, row_answer, with_own}
use Rattle.df_part.specs.Part.{cut}
use Rattle.df_part.specs.declared.part.Part.{Part}
use Rattle.df_unit.specs.Handles.{closed}
use Rattle.df_unit.specs.declared.call.Call.{Call}
use Rattle.df_unit.specs.declared.commit.Given.{Given}
use Rattle.df_unit.specs.declared.entry.Effect.{Effect}
use Rattle.df_unit.specs.declared.name.EventName.{EventName}
use Rattle.df_unit.specs.declared.reply.Reply.{Reply}
use Rattle.df_tables.specs.Line.{quiet, settled, staged_more}
use Rattle.df_rules.specs.Start.{rows}
use Rattle.df_tables.specs.Moves.{IsAnswered}
use Rattle.df_tables.specs.Table.{moved_row}
use Rattle.df_tables.specs.declared.moves.Received.{Received}
use Rattle.df_tables.specs.declared.moves.Received.TheVariants as received
use Rattle.df_tables.specs.declared.units.Unit.{Unit}

-- nothing is staged at the row
abbrev pub IsCalm : Unit → Type 0
IsCalm u = u.line.staged ≡ []

-- the row at a place changed
abbrev pub modify : {X : Type 0} → ℕ → (X → X) → List X → List X
modify k f [] = []
modify zero f (x ∷ xs) = f x ∷ xs
modify (suc k) f (x ∷ xs) = x ∷ modify k f xs

-- the row of each receiver changed, one after another
abbrev pub each : {X : Type 0} → (Pair → X → X) → List Pair → List X → List X
each f [] xs = xs
each f (p ∷ ps) xs = each f ps (modify p.0 (f p) xs)

-- the delivery of an event with these parts to a receiver who reads at a label
abbrev pub given_to : EventName → List Part → Label → Pair → Given
given_to event after at p = record { event = event; sub = p.1; parts = cut at after }

abbrev pub staged_row : EventName → List Part → Pair → Unit → Unit
staged_row event after p u =
    record u { line = staged_more (given_to event after u.local.own.input p) u.line }

abbrev pub settled_row : Pair → Unit → Unit
settled_row p u = record u { line = settled u.line }

abbrev pub quiet_row : Pair → Unit → Unit
quiet_row p u = record u { line = quiet u.line }

-- the receivers at a place
abbrev pub pairs_of : ℕ → List Pair → List Pair
pairs_of k ps = filter (λ p. p.0 == k) ps

-- what the receivers at a place are handed
abbrev pub news_at : EventName → List Part → Label → List Pair → ℕ → List Given
news_at event after at ps k = map (given_to event after at) (pairs_of k ps)

-- the news of each row are those of the receivers at its place
abbrev pub IsNews : (Unit → List Given) → EventName → List Part → List Pair → List Unit → Type 0
IsNews news event after ps us = (k : ℕ) (d : Unit) → k < length us →
    news (slice_index_or us k d)
    ≡ news_at event after (slice_index_or us k d).local.own.input ps k

-- the row with news behind what is left
abbrev pub with_news : (Unit → List Given) → Unit → Unit
with_news news u = record u { line = record u.line { left = u.line.left ++ news u } }

-- the row with a handle of the unit closed
abbrev pub shut_row : ℕ → Unit → Unit
shut_row h u = record u {
  local = with_own u.local (record u.local.own { handles = closed u.local.own.handles h });
}

-- the reply and the effect are the answer of the unit at the place
abbrev pub IsAnsweredAt : ℕ → Call → Reply → Effect → List Unit → Type 0
IsAnsweredAt k c r f us = (d : Unit) → k < length us → IsAnswered c r f (slice_index_or us k d)

-- the unit at the place answers the call with Ok and this effect; where that is none, it refuses it
abbrev pub TellsAt : ℕ → Call → Option Effect → List Unit → Type 0
TellsAt k c made us = (d : Unit) → k < length us →
    TellsEffect (row_answer (slice_index_or us k d).local (slice_index_or us k d).line.left c) made

-- the rows with a handle of the unit at a place closed, where its call had an effect
abbrev pub shut_where : Option Effect → ℕ → ℕ → List Unit → List Unit
shut_where None k h us = us
shut_where (Some f) k h us = modify k (shut_row h) us

-- the unit at the place answers the call so, and its handle is closed where that is with Ok
pub record IsClosedAt (k : ℕ) (c : Call) (h : ℕ) (made : Option Effect) (old new : List Unit)
    : Type 0 where
  pub told : TellsAt k c made old
  pub moved : new ≡ shut_where made k h old

-- the unit at the place has made the call of its own state alone, with this reply; where that is
-- none, nothing is another
abbrev pub IsMadeAt : ℕ → Call → Option Reply → List Unit → List Unit → Type 0
IsMadeAt k c None old new = new ≡ old
IsMadeAt k c (Some r) old new = (is_alone c ≡ true) × IsAnsweredAt k c r Effect.Nothing old
    × (new ≡ modify k (moved_row rows c r Effect.Nothing) old)

-- a unit's get is answered so, and its row is moved as that does
pub record IsGiven (a : Reply × Effect) (old new : Unit) : Type 0 where
  pub answered : IsAnswered Call.Get a.0 a.1 old
  pub moved : new ≡ moved_row rows Call.Get a.0 a.1 old

-- the same of the unit at a place
pub record IsGivenAt (k : ℕ) (a : Reply × Effect) (old new : List Unit) : Type 0 where
  pub answered : IsAnsweredAt k Call.Get a.0 a.1 old
  pub moved : new ≡ modify k (moved_row rows Call.Get a.0 a.1) old

-- what the get of a unit that received this is answered
abbrev pub received_answer : Received → Reply × Effect
received_answer (received.Event h given) = (Reply.Event h given.sub, Effect.Given given)
received_answer received.Nothing = (Reply.Nothing, Effect.Nothing)
received_answer received.TooManyHandles = (Reply.TooManyHandles, Effect.Nothing)
