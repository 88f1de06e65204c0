-- What each entry keeps of a unit's labels, and on which the promise of a purge rests.
use Rattle.std.specs.Prelude.{◌≡◌, ℕ, true, ◌||◌, List}
use Rattle.df_label.specs.Label.{flows_to}
use Rattle.df_label.specs.TagSet.{contains}
use Rattle.df_label.specs.declared.label.Label.{Label}
use Rattle.df_unit.specs.OwnState.{OwnState}

-- the input label flows to the contamination, each contamination tag is in the output or dropped,
-- and each output integrity tag is in the contamination or endorsed
pub record AreAccounted (input output contamination : Label)
    (dropped endorsed : List (List ℕ)) : Type 0 where
  pub reads : flows_to input contamination ≡ true
  pub secret : (t : List ℕ) → contains contamination.s t ≡ true →
      (contains output.s t || contains dropped t) ≡ true
  pub sound : (t : List ℕ) → contains output.i t ≡ true →
      (contains contamination.i t || contains endorsed t) ≡ true

-- the kept fact: so the tags of a unit's own state are accounted for
abbrev pub IsKept : OwnState → Type 0
IsKept st = AreAccounted st.input st.output st.contamination st.dropped st.endorsed
