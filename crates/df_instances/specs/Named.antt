-- Subscriptions by owner and number, and instances by name.
use Rattle.std.specs.Prelude.{◌≡◌, ℕ, Bool, false, nat_eq, ◌&&◌, ◌==◌, List, Option, Some, None, slice_get}
use Rattle.std.specs.Cmp.Lexicographic.{pointwise}
use Rattle.std.specs.List.{find, list_any}
use Rattle.std.specs.Option.{option_map}
use Rattle.df_local.specs.Births.{record_of}
use Rattle.df_unit.specs.Name.{same}
use Rattle.df_unit.specs.OwnState.{Fixed}
use Rattle.df_unit.specs.declared.name.UnitName.{UnitName}
use Rattle.df_unit.specs.declared.name.UnitName.TheVariants.{Managed}
use Rattle.df_instances.specs.declared.instances.Instance.{Instance}
use Rattle.df_instances.specs.declared.subscription.ManagedSubscription.{ManagedSubscription}

-- whether the subscription is the owner's with this number
abbrev pub is_of : List ℕ → ℕ → ManagedSubscription → Bool
is_of o n m = pointwise nat_eq m.owner o && (m.sub == n)

-- what the owner's subscription of this number keeps, if there is one
abbrev pub kept_in : List ManagedSubscription → List ℕ → ℕ → Option Fixed
kept_in managed o n = option_map (λ m. record_of m.fixed) (find (is_of o n) managed)

-- no owner gave one number to two subscriptions
abbrev pub AreNumbered : List ManagedSubscription → Type 0
AreNumbered managed = (j k : ℕ) (m w : ManagedSubscription) →
    slice_get managed j ≡ Some m → slice_get managed k ≡ Some w →
    m.owner ≡ w.owner → m.sub ≡ w.sub → j ≡ k

-- whether the instance of contamination t of the subscription, if there is one, has this name
abbrev pub is_named_at : Option ManagedSubscription → List (List ℕ) → UnitName → Bool
is_named_at None t u = false
is_named_at (Some m) t u = same (Managed m.owner m.sub t) u

-- whether one of the instances has this name
abbrev pub has_name : List ManagedSubscription → List Instance → UnitName → Bool
has_name managed instances u =
    list_any (λ x. is_named_at (slice_get managed x.place) x.s u) instances
