-- Where a turn is stale, its unit has made an entry.
use Rattle.df_workers.proofs.Names.{◌≡◌, List, Bool, true, false, refl, subst, IsPrefix, IsCurrent, begun_current, current_kept, local_named, IsBegun, core_at, crew_at, Origin, Brain, has_entry, TurnState, Entry, UnitName, HasMoved}

module _ {B : Type 0} (brain : Brain B) (o : Origin B) (t : TurnState B) where
  -- where a turn is stale, its unit has an entry behind the journal in which it began
  pub stale_moved : (seen found : List Entry) → IsPrefix seen found → (u : UnitName) → IsBegun brain o.brains (core_at o seen) u t
      → ¬ IsCurrent brain t (crew_at o found) → HasMoved u seen found
  stale_moved seen found p u b stale =
      subst (λ (v : UnitName). HasMoved v seen found) (local_named (core_at o seen) u t.unit b.unit).0
      (by (has_entry t.unit.unit p.0) refl)
    where
      by : (m : Bool) → has_entry t.unit.unit p.0 ≡ m → HasMoved t.unit.unit seen found
      by true e = record { rest = p.0; journal = p.1; moved = e }
      by false e = absurd (stale (current_kept brain o t seen found p (begun_current brain o t seen u b) e))
