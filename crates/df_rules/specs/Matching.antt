-- What a commit brings to a unit, in the words of who subscribed.
use Rattle.std.specs.Prelude.{◌≡◌, ℕ, true, false, List, ◌∷◌, ◌++◌, Some}
use Rattle.std.specs.List.{Contains}
use Rattle.df_filter.specs.declared.clause.Clause.{Clause}
use Rattle.df_label.specs.declared.label.Label.{Label}
use Rattle.df_part.specs.Contents.{apply}
use Rattle.df_part.specs.Part.{cut}
use Rattle.df_rules.specs.Choices.{matches}
use Rattle.df_rules.specs.Commits.{commit_of, contents}
use Rattle.df_rules.specs.Own.{own_plain, fixed, is_given}
use Rattle.df_rules.specs.Rules.{Rules}
use Rattle.df_rules.specs.Subscriptions.{subscriptions}
use Rattle.df_unit.specs.Beginnings.{readable_at}
use Rattle.df_unit.specs.OwnState.{OwnState, Fixed}
use Rattle.df_unit.specs.Rows.{is_nil}
use Rattle.df_unit.specs.declared.commit.Commit.{Commit}
use Rattle.df_unit.specs.declared.commit.Given.{Given}
use Rattle.df_unit.specs.declared.entry.Entry.{Entry}
use Rattle.df_unit.specs.declared.name.UnitName.{UnitName}
use Rattle.df_unit.specs.declared.name.UnitName.TheVariants.{Root, Managed}

-- the commit adds a part that is readable at the input label, and all parts of the event that are
-- then readable match the filter of the subscription
pub record IsMatch (input : Label) (subs : List (ℕ × List Clause)) (past : List Entry) (c : Commit)
    (d : Given) : Type 0 where
  pub event : d.event ≡ c.event
  pub adds : is_nil (cut input c.edit.1) ≡ false
  pub parts : d.parts ≡ cut input (apply c.edit (contents past c.event))
  pub filter : List Clause
  pub subscribed : Contains subs (d.sub, filter)
  pub matched : matches filter d.parts ≡ true

-- the commit has a choice that gives t, and the parts are all that are then readable at t
pub record IsChosen (f : Fixed) (n : ℕ) (t : List (List ℕ)) (past : List Entry) (c : Commit)
    (d : Given) : Type 0 where
  pub event : d.event ≡ c.event
  pub sub : d.sub ≡ n
  pub chosen : is_given (Some f) t past (Some c) ≡ true
  pub parts : d.parts ≡ cut (readable_at f t) (apply c.edit (contents past c.event))

-- the commit, after these entries, calls for this delivery to the unit
abbrev pub CallsFor : Rules → List OwnState → List Entry → UnitName → Commit → Given → Type 0
CallsFor R s past (Root path) c d = (st : OwnState) × (own_plain R s past path ≡ Some st)
    × IsMatch st.input (subscriptions R s past (Root path)) past c d
CallsFor R s past (Managed o n t) c d =
    (f : Fixed) × (fixed R s past o n ≡ Some f) × IsChosen f n t past c d

-- a commit of the journal called for the delivery
abbrev pub WasCalledFor : Rules → List OwnState → List Entry → UnitName → Given → Type 0
WasCalledFor R s past u d = (newer : List Entry) × (older : List Entry) × (e : Entry) × (c : Commit)
    × (past ≡ newer ++ e ∷ older) × (commit_of e ≡ Some c) × CallsFor R s older u c d
