-- What is promised where a root's family may not hold a privilege.
use Rattle.std.specs.Prelude.{◌≡◌, ℕ, true, false, List, Some}
use Rattle.df_label.specs.declared.privilege.Privilege.{Privilege}
use Rattle.df_family.specs.Family.{is_of}
use Rattle.df_priv.specs.Held.{holds}
use Rattle.df_rules.specs.Always.{Roots}
use Rattle.df_rules.specs.Legal.{IsUnaided, Legal}
use Rattle.df_rules.specs.Own.{own}
use Rattle.df_rules.specs.Start.{roots, rows}
use Rattle.df_unit.specs.OwnState.{OwnState}
use Rattle.df_unit.specs.declared.entry.Entry.{Entry}
use Rattle.df_unit.specs.declared.name.UnitName.{UnitName}

-- in no legal journal from the start into which nothing was emitted does a unit of the root's
-- family hold the privilege
abbrev pub NeverHolds : Roots → ℕ → Privilege → Type 0
NeverHolds start k p = (past : List Entry) (u : UnitName) (st : OwnState) →
    Legal rows (roots start) past → IsUnaided past → is_of k u ≡ true →
    own rows (roots start) past u ≡ Some st → holds st.held p ≡ false
