-- The ordinary subscriptions of units. The newest entry of a journal stands first.
use Rattle.std.specs.Prelude.{ℕ, ◌<◌, if◌then◌else◌, List, [], ◌∷◌, ◌++◌, Option, None, option_to_list}
use Rattle.std.specs.Option.{option_and_then}
use Rattle.df_filter.specs.declared.clause.Clause.{Clause}
use Rattle.df_rules.specs.Own.{own}
use Rattle.df_rules.specs.Rules.{Rules}
use Rattle.df_unit.specs.Name.{same}
use Rattle.df_unit.specs.OwnState.{OwnState}
use Rattle.df_unit.specs.declared.entry.Entry.{Entry}
use Rattle.df_unit.specs.declared.entry.Entry.TheVariants.{Done, Emitted}
use Rattle.df_unit.specs.declared.name.UnitName.{UnitName}

-- the unit's ordinary subscription that an entry makes, by the unit's state before the entry
abbrev pub subscribed_by : Rules → Entry → UnitName → Option OwnState → Option (ℕ × List Clause)
subscribed_by R (Done a c r f) u o =
    if same a u then option_and_then (λ st. R.subscribes st c r) o else None
subscribed_by R (Emitted c) u o = None

-- a unit's ordinary subscriptions, each a number and a filter, the oldest first
abbrev pub subscriptions : Rules → List OwnState → List Entry → UnitName → List (ℕ × List Clause)
subscriptions R s [] u = []
subscriptions R s (e ∷ past) u =
    subscriptions R s past u ++ option_to_list (subscribed_by R e u (own R s past u))

-- the first has the lower number
abbrev pub ComesBefore : ℕ × List Clause → ℕ × List Clause → Type 0
ComesBefore x y = x.0 < y.0
