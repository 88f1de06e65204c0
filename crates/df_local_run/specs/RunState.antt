-- A run of local calls, and how it is stored.
use Rattle.std.specs.Prelude.{List, refl}
use Rattle.std.specs.Coded.{Coded, code_by, coded×, coded_list}
use Rattle.df_unit.specs.contracts.entry.Entry as entry
use Rattle.df_unit.specs.declared.entry.Entry.{Entry}
use Rattle.df_local.specs.code.LocalState.{LocalState, local_code}

-- the unit as the run began, as it is now, and the entries between, the oldest first
pub record RunState : Type 0 where
  pub base : LocalState
  pub present : LocalState
  pub entries : List Entry

-- a run is stored as its three parts
abbrev pub run_code : Coded RunState
run_code =
    code_by (LocalState × (LocalState × List Entry))
    (coded× local_code (coded× local_code (coded_list entry.the_row.coded)))
    (λ r. (r.base, (r.present, r.entries)))
    (λ p. record { base = p.0; present = p.1.0; entries = p.1.1 })
    (λ _. refl)
