-- What each step on a word of the desk's table tells the seat that makes it.
use Rattle.std.specs.Prelude.{◌≡◌, ◌≢◌, ℕ, List, [], ◌∷◌, length, nat_lt, if◌then◌else◌, Option, Some}
use mathlib.Core.Option.{some}
use Rattle.atomic_table.specs.Table.{Step}
use Rattle.df_desk.specs.declared.view.View.{View}
use Rattle.df_desk.specs.declared.view.View.TheVariants.{Idle, Joined, Called, Counted}
use Rattle.df_desk.specs.View.{SeatState}
use Rattle.df_desk.specs.Rule.{GoesOnFrom}

module _ {V : Type 0} where
  -- what a seat knows once another is joined into it: both lists, until they are compared
  abbrev pub joined_view : View V → View V → View V
  joined_view (Idle v) (Idle w) = Joined v w
  joined_view this that = this

  -- a count: the desk's value is now the one that the step announced
  abbrev pub Counts : Step (Option V) → SeatState V → ℕ → SeatState V → Type 0
  Counts step before found after = (w : V) → step.said ≡ some (Some w) →
      after ≡ (Counted w, before.1)

  -- a free: the seat has nothing more, and has seen what it gave
  abbrev pub Frees : Step (Option V) → SeatState V → ℕ → SeatState V → Type 0
  Frees step before found after = (v : V) → before.0 ≡ Counted v → after ≡ (Idle v, [])

-- of two values, the one with the longer list
abbrev pub longer_value : {V E : Type 0} → (V → List E) → V → V → V
longer_value list v w = if nat_lt (length (list v)) (length (list w)) then w else v

module _ {V O E : Type 0} (origin : V → O) (list : V → List E) where
  -- a try: where the word was 0 the slot is out with the seat, and its value goes on from what the
  -- seat had seen; else nothing has changed
  abbrev pub Tries : Step (Option V) → SeatState V → ℕ → SeatState V → Type 0
  Tries step before found after =
      (found ≡ 0 → (v : V) → before.0 ≡ Idle v
      → (x : V) × (after ≡ (Called x, (0, Some x) ∷ before.1)) × GoesOnFrom origin list x v)
      × (found ≢ 0 → after ≡ before)

  -- a comparison: of two lists that were seen the longer stays, and both are beginnings of it
  abbrev pub Compares : Step (Option V) → SeatState V → ℕ → SeatState V → Type 0
  Compares step before found after = (v w : V) → before.0 ≡ Joined v w →
      let longer = longer_value list v w in
      (after ≡ (Idle longer, before.1)) × GoesOnFrom origin list longer v
      × GoesOnFrom origin list longer w
