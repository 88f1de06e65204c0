-- What stays of a journal at a label.
use Rattle.std.specs.Prelude.{◌≡◌, Bool, true, false, ◌&&◌, if◌then◌else◌, List, [], ◌∷◌, ◌++◌, Option, Some, None}
use Rattle.df_label.specs.Label.{flows_to}
use Rattle.df_label.specs.declared.label.Label.{Label}
use Rattle.df_part.specs.Part.{cut}
use Rattle.df_rules.specs.Commits.{commit_of, contents, cut_spots, cut_commit}
use Rattle.df_rules.specs.Deliveries.{deliveries}
use Rattle.df_rules.specs.Own.{own}
use Rattle.df_rules.specs.Rules.{Rules}
use Rattle.df_rules.specs.Subscriptions.{subscriptions}
use Rattle.df_unit.specs.OwnState.{OwnState}
use Rattle.df_unit.specs.Rows.{is_nil}
use Rattle.df_unit.specs.declared.commit.Commit.{Commit}
use Rattle.df_unit.specs.declared.entry.Entry.{Entry}
use Rattle.df_unit.specs.declared.entry.Entry.TheVariants.{Done, Emitted}
use Rattle.df_unit.specs.declared.name.EventName.{EventName}
use Rattle.df_unit.specs.declared.name.UnitName.{UnitName}

-- a unit is within a label where it exists and its contamination flows to the label
abbrev pub is_within : Label → Option OwnState → Bool
is_within l None = false
is_within l (Some st) = flows_to st.contamination l

-- what a label shows of a commit, if it is anything
abbrev pub echo : Label → Option Commit → Option Commit
echo l None = None
echo l (Some c) =
    if is_nil (cut_spots l c.edit.0) && is_nil (cut l c.edit.1) then None else Some (cut_commit l c)

abbrev pub emitted : Option Commit → List Entry
emitted None = []
emitted (Some c) = Emitted c ∷ []

-- whether the entry is one of a unit that is within the label before it
abbrev pub stays : Rules → List OwnState → Label → List Entry → Entry → Bool
stays R s l past (Done u call r f) = is_within l (own R s past u)
stays R s l past (Emitted c) = false

-- what the purge leaves of an entry: the whole, or what the label shows of its commit
abbrev pub left_of : Label → Bool → Entry → List Entry
left_of l stays e = if stays then e ∷ [] else emitted (echo l (commit_of e))

abbrev pub purge : Rules → List OwnState → Label → List Entry → List Entry
purge R s l [] = []
purge R s l (e ∷ past) = left_of l (stays R s l past e) e ++ purge R s l past

-- units within the label are as they were, have the ordinary subscriptions that they had and are
-- handed what they were, and what the label shows of each event is the same
pub record Keeps (R : Rules) (s : List OwnState) (l : Label) (past kept : List Entry) : Type 0 where
  pub same_own : (u : UnitName) (st : OwnState) → own R s past u ≡ Some st →
      flows_to st.contamination l ≡ true → own R s kept u ≡ Some st
  pub same_subscriptions : (u : UnitName) (st : OwnState) → own R s past u ≡ Some st →
      flows_to st.contamination l ≡ true → subscriptions R s kept u ≡ subscriptions R s past u
  pub same_deliveries : (u : UnitName) (st : OwnState) → own R s past u ≡ Some st →
      flows_to st.contamination l ≡ true → deliveries R s kept u ≡ deliveries R s past u
  pub same_contents : (event : EventName) →
      cut l (contents kept event) ≡ cut l (contents past event)
