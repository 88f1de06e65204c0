-- The rule of the desk's table: what holds between any two steps, whoever makes them.
use Rattle.std.specs.Prelude.{◌≡◌, ℕ, ◌≤◌, List, [], ◌∷◌, length, Option, Some}
use mathlib.Core.Option.{some, none}
use mathlib.Core.List.{IsPrefix}
use lib.ListN.{get_elem?}
use Rattle.atomic_table.specs.Table.{State}
use Rattle.df_desk.specs.declared.view.View.{View}
use Rattle.df_desk.specs.declared.view.View.TheVariants.{Spent, Idle, Joined, Called, Counted}
use Rattle.df_desk.specs.View.{IsOut}

module _ {V O E : Type 0} (origin : V → O) (list : V → List E) where
  -- x has the origin of v, and the list of x begins with that of v
  abbrev pub GoesOnFrom : V → V → Type 0
  GoesOnFrom x v = (origin v ≡ origin x) × IsPrefix (list v) (list x)

  -- what the view of a seat says, where x is the desk's value, `held` the first word, and `holder`
  -- who has the value
  abbrev pub Knows : V → ℕ → ℕ → ℕ → View V → Type 0
  Knows x held holder seat Spent = Unit {0}
  Knows x held holder seat (Idle v) = GoesOnFrom x v
  Knows x held holder seat (Joined v w) = GoesOnFrom x v × GoesOnFrom x w
  Knows x held holder seat (Called v) = (v ≡ x) × (seat ≡ holder) × (held ≡ 1)
  Knows x held holder seat (Counted v) = (v ≡ x) × (seat ≡ holder) × (held ≡ 1)

-- a moment of the desk's table: its words, its slot, and the views of all seats
abbrev pub Moment : Type 0 → Type 0
Moment V = State (Option V) (View V)

-- The desk's value is the one in the slot or, while a seat has it, what this seat's view says.
-- The desk was made with the value `first`.
pub record DeskInvariant {V O E : Type 0} (origin : V → O) (list : V → List E) (first : V)
    (s : Moment V) : Type 0 where
  pub value : V
  pub held : ℕ
  pub holder : ℕ
  pub words : s.words ≡ held ∷ length (list value) ∷ []
  pub flag : held ≤ 1
  pub at_home : held ≡ 0 → get_elem? s.homes 0 ≡ some (some (Some value))
  pub away : held ≡ 1 → get_elem? s.homes 0 ≡ some none
  pub out : held ≡ 1 → (view : View V) × (get_elem? s.views holder ≡ some view) × IsOut view
  pub origin_is : origin value ≡ origin first
  pub each_view : (seat : ℕ) (view : View V) → get_elem? s.views seat ≡ some view
      → Knows origin list value held holder seat view
