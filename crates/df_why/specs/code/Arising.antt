-- Where a unit's deliveries arise.
use Rattle.std.specs.Prelude.{◌≡◌, ◌-◌, ◌<◌, ◌≤◌, ℕ, List, ◌∷◌, ◌++◌, Option, Some, length, refl, replicate, slice_get}
use Rattle.std.specs.Coded.{Coded, code_by, coded×, coded_list, coded_ℕ}
use Rattle.df_rules.specs.Deliveries.{deliveries}
use Rattle.df_rules.specs.Received.{received}
use Rattle.df_rules.specs.Rules.{Rules}
use Rattle.df_unit.specs.OwnState.{OwnState}
use Rattle.df_unit.specs.declared.entry.Entry.{Entry}
use Rattle.df_unit.specs.declared.name.UnitName.{UnitName}
use Rattle.df_why.specs.Grounds.{brings}
use Rattle.df_why.specs.code.Walk.{points}

-- of a unit, how many deliveries it took, and the places where its first ones arose
pub record QueueState : Type 0 where
  pub taken : ℕ
  pub places : List ℕ

abbrev pub queue_code : Coded QueueState
queue_code = code_by (ℕ × List ℕ) (coded× coded_ℕ (coded_list coded_ℕ))
    (λ q. (q.taken, q.places))
    (λ p. record { taken = p.0; places = p.1 })
    (λ _. refl)

-- the unit's delivery of a number arose there, if anywhere
abbrev pub IsAnswer : Rules → List OwnState → List Entry → UnitName → ℕ → Option ℕ → Type 0
IsAnswer R s past u m o = (newer older : List Entry) (e : Entry) → past ≡ newer ++ e ∷ older →
    brings R s u m older e ≡ points o (length older)

-- what is kept of a unit is so after the entries, as far as places are kept
pub record IsQueue (R : Rules) (s : List OwnState) (past : List Entry) (u : UnitName)
    (q : QueueState) : Type 0 where
  pub taken : q.taken ≡ length (received u past)
  pub short : length q.places ≤ length (deliveries R s past u)
  pub before : (m p : ℕ) → slice_get q.places m ≡ Some p → p < length past
  pub known : (m p : ℕ) → slice_get q.places m ≡ Some p → IsAnswer R s past u m (Some p)

-- the place of each of the unit's deliveries is kept
pub record IsWhole (R : Rules) (s : List OwnState) (past : List Entry) (u : UnitName)
    (q : QueueState) : Type 0 where
  pub queue : IsQueue R s past u q
  pub count : length q.places ≡ length (deliveries R s past u)

-- so many deliveries are left; those without a place arose here
abbrev pub extended : QueueState → ℕ → ℕ → QueueState
extended q left here = record q {
  places = q.places ++ replicate (left - (length q.places - q.taken)) here;
}
