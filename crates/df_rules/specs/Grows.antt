-- What only grows.
use Rattle.std.specs.Prelude.{◌≡◌, ◌≤◌, true}
use Rattle.df_label.specs.Label.{flows_to}
use Rattle.df_label.specs.TagSet.{is_subset}
use Rattle.df_label.specs.declared.privilege.Privilege.{Privilege}
use Rattle.df_priv.specs.Held.{holds}
use Rattle.df_unit.specs.OwnState.{OwnState}

-- no privilege is lost, contamination and what is set aside grow, and so do the counts
pub record HasGrown (st later : OwnState) : Type 0 where
  pub held : (p : Privilege) → holds st.held p ≡ true → holds later.held p ≡ true
  pub contamination : flows_to st.contamination later.contamination ≡ true
  pub dropped : is_subset st.dropped later.dropped ≡ true
  pub endorsed : is_subset st.endorsed later.endorsed ≡ true
  pub events : st.events ≤ later.events
  pub tags : st.tags ≤ later.tags
  pub subs : st.subs ≤ later.subs
  pub units : st.units ≤ later.units
  pub given : st.given ≤ later.given
