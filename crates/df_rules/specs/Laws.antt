-- What the rules of the calls keep, and on which the promises of a purge rest.
use Rattle.std.specs.Prelude.{◌≡◌, ◌⊎◌, ℕ, ◌+◌, true, List, [], ◌∷◌, Some, slice_get}
use Rattle.std.specs.List.{list_all}
use Rattle.df_label.specs.Label.{flows_to}
use Rattle.df_label.specs.TagSet.{contains, is_subset}
use Rattle.df_priv.specs.declared.need.Act.{Act}
use Rattle.df_priv.specs.declared.need.Act.TheVariants.{Add, Del}
use Rattle.df_priv.specs.declared.need.Half.{Half}
use Rattle.df_rules.specs.Commits.{given_in}
use Rattle.df_rules.specs.Rules.{Rules}
use Rattle.df_unit.specs.Beginnings.{readable_at}
use Rattle.df_unit.specs.KeptFact.{IsKept}
use Rattle.df_unit.specs.OwnState.{OwnState, Fixed}
use Rattle.df_unit.specs.declared.call.Call.{Call}
use Rattle.df_unit.specs.declared.call.Call.TheVariants.{ChangeOutLabel, ChangeInOut}
use Rattle.df_unit.specs.declared.commit.Commit.{Commit}
use Rattle.df_unit.specs.declared.commit.Given.{Given}
use Rattle.df_unit.specs.declared.entry.Effect.{Effect}
use Rattle.df_unit.specs.declared.name.UnitName.{UnitName}
use Rattle.df_unit.specs.declared.reply.Reply.{Reply}

-- contamination grows and takes in all that a unit may read, and is passed on to instances and
-- children
pub record Laws (R : Rules) (s : List OwnState) : Type 0 where
  pub grows : (u : UnitName) (st : OwnState) (c : Call) (r : Reply) (f : Effect) →
      flows_to st.contamination (R.after u st c r f).contamination ≡ true
  pub reads : (u : UnitName) (st : OwnState) (c : Call) (r : Reply) (f : Effect) →
      flows_to st.input st.contamination ≡ true →
      flows_to (R.after u st c r f).input (R.after u st c r f).contamination ≡ true
  pub reads_first : (k : ℕ) (st : OwnState) → slice_get s k ≡ Some st →
      flows_to st.input st.contamination ≡ true
  pub fixes_contamination : (st : OwnState) (n : ℕ) (c : Call) (r : Reply) (f : Fixed) →
      R.fixes st n c r ≡ Some f → flows_to st.contamination f.contamination ≡ true
  pub begin_contamination : (f : Fixed) (t : List (List ℕ)) →
      flows_to f.contamination (R.begin f t).contamination ≡ true
  pub begin_readable : (f : Fixed) (t : List (List ℕ)) →
      flows_to (readable_at f t) (R.begin f t).contamination ≡ true
  pub makes_contamination : (st : OwnState) (k : ℕ) (c : Call) (r : Reply) (child : OwnState) →
      R.makes st k c r ≡ Some child → flows_to st.contamination child.contamination ≡ true
  pub makes_reads : (st : OwnState) (k : ℕ) (c : Call) (r : Reply) (child : OwnState) →
      R.makes st k c r ≡ Some child → flows_to child.input child.contamination ≡ true

-- an accepted change of a label by this tag, while the privilege that it needs was held
pub record IsChange (R : Rules) (st : OwnState) (half : Half) (act : Act) (t : List ℕ) (c : Call)
    (r : Reply) : Type 0 where
  pub asked : (c ≡ ChangeOutLabel half act t) ⊎ (c ≡ ChangeInOut half act t)
  pub accepted : r ≡ Reply.Ok
  pub held : R.holds st act t ≡ true

-- what is emitted is written at the output label, and what an output label lacks was dropped or
-- endorsed by a privilege
pub record ReleaseLaws (R : Rules) (s : List OwnState) : Type 0 where
  -- a commit writes only where the output label flows
  pub added : (u : UnitName) (st : OwnState) (ds : List Given) (c : Call) (r : Reply) (k : Commit) →
      R.answer u st ds c ≡ (r, Effect.Commit k) →
      list_all (λ part. flows_to st.output part.label) k.edit.1 ≡ true
  pub deleted : (u : UnitName) (st : OwnState) (ds : List Given) (c : Call) (r : Reply)
      (k : Commit) → R.answer u st ds c ≡ (r, Effect.Commit k) →
      list_all (λ d. flows_to st.output d.label) k.edit.0 ≡ true
  -- the kept fact of each state
  pub kept_first : (k : ℕ) (st : OwnState) → slice_get s k ≡ Some st → IsKept st
  pub kept_after : (u : UnitName) (st : OwnState) (c : Call) (r : Reply) (f : Effect) → IsKept st →
      IsKept (R.after u st c r f)
  pub kept_begin : (st : OwnState) (n : ℕ) (c : Call) (r : Reply) (f : Fixed) (t : List (List ℕ)) →
      R.fixes st n c r ≡ Some f → IsKept st → is_subset f.base t ≡ true → IsKept (R.begin f t)
  pub kept_makes : (st : OwnState) (k : ℕ) (c : Call) (r : Reply) (child : OwnState) →
      R.makes st k c r ≡ Some child → IsKept st → IsKept child
  -- what is dropped and endorsed
  pub none_first : (k : ℕ) (st : OwnState) → slice_get s k ≡ Some st → (st.dropped ≡ [])
      × (st.endorsed ≡ [])
  pub dropped_after : (u : UnitName) (st : OwnState) (ds : List Given) (c : Call) (r : Reply)
      (f : Effect) (t : List ℕ) → R.answer u st ds c ≡ (r, f) →
      contains (R.after u st c r f).dropped t ≡ true → (contains st.dropped t ≡ true)
      ⊎ IsChange R st Half.S Del t c r
  pub endorsed_after : (u : UnitName) (st : OwnState) (ds : List Given) (c : Call) (r : Reply)
      (f : Effect) (t : List ℕ) → R.answer u st ds c ≡ (r, f) →
      contains (R.after u st c r f).endorsed t ≡ true → (contains st.endorsed t ≡ true)
      ⊎ IsChange R st Half.I Add t c r
  pub fixes_dropped : (st : OwnState) (n : ℕ) (c : Call) (r : Reply) (f : Fixed)
      (t : List (List ℕ)) → R.fixes st n c r ≡ Some f → (R.begin f t).dropped ≡ st.dropped
  pub fixes_endorsed : (st : OwnState) (n : ℕ) (c : Call) (r : Reply) (f : Fixed)
      (t : List (List ℕ)) → R.fixes st n c r ≡ Some f → (R.begin f t).endorsed ≡ st.endorsed
  pub makes_dropped : (st : OwnState) (k : ℕ) (c : Call) (r : Reply) (child : OwnState) →
      R.makes st k c r ≡ Some child → child.dropped ≡ st.dropped
  pub makes_endorsed : (st : OwnState) (k : ℕ) (c : Call) (r : Reply) (child : OwnState) →
      R.makes st k c r ≡ Some child → child.endorsed ≡ st.endorsed

-- a get takes the first delivery that is left and counts it, no other call does, and units begin
-- with none taken
pub record TakingLaws (R : Rules) (s : List OwnState) : Type 0 where
  pub none_first : (k : ℕ) (st : OwnState) → slice_get s k ≡ Some st → st.given ≡ 0
  pub none_begin : (f : Fixed) (t : List (List ℕ)) → (R.begin f t).given ≡ 0
  pub none_makes : (st : OwnState) (k : ℕ) (c : Call) (r : Reply) (child : OwnState) →
      R.makes st k c r ≡ Some child → child.given ≡ 0
  pub takes : (u : UnitName) (st : OwnState) (ds : List Given) (c : Call) (r : Reply) (d : Given) →
      R.answer u st ds c ≡ (r, Effect.Given d) → (rest : List Given) × (ds ≡ d ∷ rest)
      × ((R.after u st c r (Effect.Given d)).given ≡ st.given + 1)
  pub leaves : (u : UnitName) (st : OwnState) (ds : List Given) (c : Call) (r : Reply)
      (f : Effect) → R.answer u st ds c ≡ (r, f) → given_in f ≡ [] →
      (R.after u st c r f).given ≡ st.given
