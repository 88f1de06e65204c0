-- What a machine's journal tells, and how it grows.
use Rattle.std.specs.Prelude.{◌≡◌, ℕ, Bool, false, not, List, ◌∷◌, Option, Some, None, length, map}
use Rattle.std.specs.List.{list_any}
use Rattle.std.specs.Option.{option_map}
use Rattle.df_label.specs.Ascending.{IsAscending, contains_by}
use Rattle.df_label.specs.declared.label.Label.{Label}
use Rattle.df_local.specs.code.LocalState.{LocalState}
use Rattle.df_rules.specs.Deliveries.{deliveries}
use Rattle.df_rules.specs.Legal.{Legal, answer, answered, left}
use Rattle.df_rules.specs.Own.{exists, own}
use Rattle.df_rules.specs.Start.{rows, roots}
use Rattle.df_start.specs.Begun.{begun}
use Rattle.df_start.specs.declared.start.RootStart.{RootStart}
use Rattle.df_tables.specs.Board.{is_brought}
use Rattle.df_unit.specs.Name.{same}
use Rattle.df_unit.specs.OwnState.{OwnState}
use Rattle.df_unit.specs.Rows.{is_nil}
use Rattle.df_unit.specs.UnitOrder.{unit_cmp}
use Rattle.df_unit.specs.declared.call.Call.{Call}
use Rattle.df_unit.specs.declared.commit.Commit.{Commit}
use Rattle.df_unit.specs.declared.commit.Given.{Given}
use Rattle.df_unit.specs.declared.entry.Effect.{Effect}
use Rattle.df_unit.specs.declared.entry.Entry.{Entry}
use Rattle.df_unit.specs.declared.name.UnitName.{UnitName}
use Rattle.df_unit.specs.declared.reply.Reply.{Reply}

-- a machine's start and its journal, the newest entry first
abbrev pub State : Type 0
State = List RootStart × List Entry

-- the roots as they begin
abbrev pub firsts : List RootStart → List OwnState
firsts start = roots (map begun start)

-- the journal is legal
abbrev pub IsLegal : State → Type 0
IsLegal core = Legal rows (firsts core.0) core.1

-- the reply and the effect that the rules give to a call
abbrev pub answer_in : State → UnitName → Call → Reply × Effect
answer_in core actor call = answer rows (firsts core.0) core.1 actor call

-- one entry was appended: the call with the answer that the rules give to it
abbrev pub appended : UnitName → Call → State → State
appended actor call core = (core.0, answered rows (firsts core.0) core.1 actor call ∷ core.1)

-- a unit with its own state, where it exists
abbrev pub local_of : State → UnitName → Option LocalState
local_of core name =
    option_map (λ st. record { unit = name; own = st }) (own rows (firsts core.0) core.1 name)

-- the contamination of a unit, where it exists
abbrev pub contamination_in : State → UnitName → Option Label
contamination_in core name =
    option_map (λ st. st.contamination) (own rows (firsts core.0) core.1 name)

-- whether some of these deliveries are left to a unit with this own state, if it exists
abbrev pub is_due : Option OwnState → List Given → Bool
is_due None ds = false
is_due (Some st) ds = not (is_nil (left st ds))

-- whether the unit exists and a delivery is left to it
abbrev pub has_delivery_in : State → UnitName → Bool
has_delivery_in core name =
    is_due (own rows (firsts core.0) core.1 name) (deliveries rows (firsts core.0) core.1 name)

-- how many of these deliveries are left to a unit with this own state, if it exists
abbrev pub number_left : Option OwnState → List Given → ℕ
number_left None ds = 0
number_left (Some st) ds = length (left st ds)

-- how many deliveries are left to a unit; none where it doesn't exist
abbrev pub left_in : State → UnitName → ℕ
left_in core name =
    number_left (own rows (firsts core.0) core.1 name) (deliveries rows (firsts core.0) core.1 name)

-- these are the units to which a commit, as the next entry, is handed
abbrev pub AreReceivers : Commit → List UnitName → State → Type 0
AreReceivers commit names core = (name : UnitName) →
    list_any (λ n. same n name) names ≡ is_brought (firsts core.0) core.1 commit name

-- the names of the units that exist, in the order of units
pub record IsRoll (core : State) (names : List UnitName) : Type 0 where
  pub order : IsAscending unit_cmp names
  pub units : (name : UnitName) →
      contains_by unit_cmp names name ≡ exists rows (firsts core.0) core.1 name
