-- How an instance and a child begin, beside their owner or maker.
use Rattle.std.specs.Prelude.{◌≡◌, ℕ, true, List, ◌∷◌, Option, Some, None}
use Rattle.df_label.specs.Label.{flows_to, join}
use Rattle.df_label.specs.Tag.{maker_of, number_of}
use Rattle.df_label.specs.TagSet.{is_subset, meet}
use Rattle.df_rules.specs.Exercised.{before_fixed}
use Rattle.df_rules.specs.Own.{own}
use Rattle.df_rules.specs.Start.{rows}
use Rattle.df_unit.specs.OwnState.{OwnState}
use Rattle.df_unit.specs.declared.call.Call.TheVariants.{Instantiate}
use Rattle.df_unit.specs.declared.entry.Effect.{Effect}
use Rattle.df_unit.specs.declared.entry.Entry.{Entry}
use Rattle.df_unit.specs.declared.entry.Entry.TheVariants.{Done}
use Rattle.df_unit.specs.declared.name.UnitName.{UnitName}
use Rattle.df_unit.specs.declared.name.UnitName.TheVariants.{Root}
use Rattle.df_unit.specs.declared.reply.Reply.TheVariants.{Unit}

-- the entry makes the unit: it isn't there before, and is with this state behind it
pub record Begins (s : List OwnState) (past : List Entry) (e : Entry) (u : UnitName)
    (st : OwnState) : Type 0 where
  pub absent : own rows s past u ≡ None
  pub begun : own rows s (e ∷ past) u ≡ Some st

-- a plain unit as it was before it made its subscription n
abbrev pub owner_of : List OwnState → List Entry → List ℕ → ℕ → Option OwnState
owner_of s past o n = own rows s (before_fixed rows s past o n) (Root o)

-- both labels and the contamination are above those of the owner or maker, and what was set aside
-- is passed on
pub record IsAbove (owner st : OwnState) : Type 0 where
  -- both labels have the secrets of both
  pub reads_input : is_subset owner.input.s st.input.s ≡ true
  pub reads_output : is_subset owner.output.s st.input.s ≡ true
  pub writes_input : is_subset owner.input.s st.output.s ≡ true
  pub writes_output : is_subset owner.output.s st.output.s ≡ true
  -- the input label has the integrity of the input, and the output label what both have
  pub input_integrity : st.input.i ≡ owner.input.i
  pub output_integrity : st.output.i ≡ meet owner.input.i owner.output.i
  -- each label and the contamination is above its own
  pub input : flows_to owner.input st.input ≡ true
  pub output : flows_to owner.output st.output ≡ true
  pub contamination : flows_to owner.contamination st.contamination ≡ true
  -- and the contamination takes in no more than what may be read
  pub least : st.contamination ≡ join owner.contamination st.input
  pub dropped : st.dropped ≡ owner.dropped
  pub endorsed : st.endorsed ≡ owner.endorsed

-- an instance holds what its owner held
pub record IsInstanceOf (owner st : OwnState) : Type 0 where
  pub above : IsAbove owner st
  pub held : st.held ≡ owner.held

-- a child holds the privileges of the call by which its maker made it
pub record IsChildOf (maker : OwnState) (e : Entry) (path : List ℕ) (st : OwnState) : Type 0 where
  pub above : IsAbove maker st
  pub made : (s : List (List ℕ)) × (f : Effect)
      × (e ≡ Done (Root (maker_of path)) (Instantiate s st.held) (Unit (number_of path)) f)
