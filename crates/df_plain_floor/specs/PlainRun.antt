-- The plain run: the roots but the first take turns until each appends nothing more, one root after
-- the other. Then all units take one turn each, pass by pass, until a pass appends nothing.
use Rattle.std.specs.Prelude.{◌≡◌, ◌≤◌, ℕ, zero, suc, pred, Bool, if◌then◌else◌, List, [], ◌∷◌, length, nat_le}
use Rattle.df_booking.specs.CrewState.{CrewState}
use Rattle.df_booking.specs.Turns.{turned}
use Rattle.df_machine.specs.Journal.{IsRoll, firsts}
use Rattle.df_rules.specs.Follows.{Brain, Quiet}
use Rattle.df_rules.specs.Start.{rows}
use Rattle.df_unit.specs.declared.name.UnitName.{UnitName}
use Rattle.df_unit.specs.declared.name.UnitName.TheVariants.{Root}

-- each unit that exists waits, and no delivery is left to it
abbrev pub IsQuiet : {B : Type 0} → Brain B → CrewState B → Type 0
IsQuiet brain crew = Quiet brain rows (firsts crew.core.0) crew.brains crew.core.1

-- the journal has at least so many entries
abbrev pub is_full : {B : Type 0} → ℕ → CrewState B → Bool
is_full max crew = nat_le max (length crew.core.1)

-- the journal has at least so many entries, and not each unit is at rest
abbrev pub IsAtLimit : {B : Type 0} → Brain B → ℕ → CrewState B → Type 0
IsAtLimit brain max crew = (max ≤ length crew.core.1) × (¬ IsQuiet brain crew)

-- a unit takes a turn, unless the journal has so many entries already
abbrev pub take_turn : {B : Type 0} → Brain B → ℕ → UnitName → CrewState B → CrewState B
take_turn brain max u crew = if is_full max crew then crew else turned brain u crew

-- units take one turn each, the first one first
abbrev pub take_turns : {B : Type 0} → Brain B → ℕ → List UnitName → CrewState B → CrewState B
take_turns brain max [] crew = crew
take_turns brain max (u ∷ us) crew = take_turns brain max us (take_turn brain max u crew)

-- a turn of a unit leads from the one to the other
abbrev pub IsTurn : {B : Type 0} → Brain B → ℕ → UnitName → CrewState B → CrewState B → Type 0
IsTurn brain max u old new = new ≡ take_turn brain max u old

-- a pass leads from the one to the other: the units that exist when it begins take one turn each,
-- in the order of units
pub record IsPass {B : Type 0} (brain : Brain B) (max : ℕ) (old new : CrewState B) : Type 0 where
  pub names : List UnitName
  pub roll : IsRoll old.core names
  pub turns : new ≡ take_turns brain max names old

-- so many steps lead from the one to the other
abbrev pub Repeated : {S : Type 0} → (S → S → Type 0) → ℕ → S → S → Type 0
Repeated {S} step zero old new = new ≡ old
Repeated {S} step (suc n) old new = (mid : S) × Repeated step n old mid × step mid new

-- steps lead from the one to the other, from which one more leads nowhere
pub record RunsOut {S : Type 0} (step : S → S → Type 0) (old new : S) : Type 0 where
  pub count : ℕ
  pub steps : Repeated step count old new
  pub last : step new new

-- a root by its number
abbrev pub root_name : ℕ → UnitName
root_name k = Root (k ∷ [])

-- the roots 1 to k took turns, one root after the other, each until it appended nothing more
abbrev pub Opened : {B : Type 0} → Brain B → ℕ → ℕ → CrewState B → CrewState B → Type 0
Opened brain max zero old new = new ≡ old
Opened {B} brain max (suc k) old new = (mid : CrewState B) × Opened brain max k old mid
    × RunsOut (IsTurn brain max (root_name (suc k))) mid new

-- the plain opening: all roots but the first
abbrev pub IsOpening : {B : Type 0} → Brain B → ℕ → CrewState B → CrewState B → Type 0
IsOpening brain max old new = Opened brain max (pred (length old.core.0)) old new

-- the plain passes
abbrev pub ArePasses : {B : Type 0} → Brain B → ℕ → CrewState B → CrewState B → Type 0
ArePasses brain max old new = RunsOut (IsPass brain max) old new

-- the plain run: the opening, and then the passes
pub record IsPlainRun {B : Type 0} (brain : Brain B) (max : ℕ) (old new : CrewState B) :
    Type 0 where
  pub opened : CrewState B
  pub opening : IsOpening brain max old opened
  pub passes : ArePasses brain max opened new
