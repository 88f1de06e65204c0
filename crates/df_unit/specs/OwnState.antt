-- A unit's own state: labels, tags set aside, privileges, counters and handles, as its own entries
-- make them.
use Rattle.std.specs.Prelude.{ℕ, List, Option}
use Rattle.df_label.specs.declared.label.Label.{Label}
use Rattle.df_label.specs.declared.privilege.Privilege.{Privilege}
use Rattle.df_filter.specs.declared.clause.Clause.{Clause}
use Rattle.df_unit.specs.declared.handle.Handle.{Handle}

pub record OwnState : Type 0 where
  pub input : Label
  pub output : Label
  -- the join of the contamination at the beginning with all input labels so far
  pub contamination : Label
  -- tags that an accepted change took out of the output's confidentiality
  pub dropped : List (List ℕ)
  -- tags that an accepted change put into the output's integrity
  pub endorsed : List (List ℕ)
  -- ascending
  pub held : List Privilege
  -- how many events, tags, subscriptions and units the unit made
  pub events : ℕ
  pub tags : ℕ
  pub subs : ℕ
  pub units : ℕ
  -- how many deliveries it took
  pub given : ℕ
  -- a handle's number is its place
  pub handles : List (Option Handle)

-- what a managed subscription keeps of its moment
pub record Fixed : Type 0 where
  pub filter : List Clause
  -- the owner's input confidentiality with its output's
  pub base : List (List ℕ)
  pub input_integrity : List (List ℕ)
  pub output_integrity : List (List ℕ)
  pub held : List Privilege
  pub contamination : Label
  pub dropped : List (List ℕ)
  pub endorsed : List (List ℕ)
