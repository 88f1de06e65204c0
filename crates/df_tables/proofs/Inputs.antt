-- Only one call changes the label at which a unit reads.
use Rattle.df_tables.proofs.Names.{◌≡◌, Bool, true, false, if◌then◌else◌, refl, OwnState, after, changed, is_accepted, Call, ChangeInOut, Get, Effect, UnitName, Reply, is_in_out}

changed_keeps : (n : UnitName) (st : OwnState) (c : Call) (f : Effect) → is_in_out c ≡ false → (changed n st c f).input ≡ st.input
changed_keeps n st (ChangeInOut half act tag) f h = absurd (let z : ⊥ = cc in z)
changed_keeps n st Get Effect.Nothing h = refl
changed_keeps n st Get (Effect.Commit k) h = refl
changed_keeps n st Get (Effect.Given d) h = refl
changed_keeps n st _ f h = refl

pub after_keeps : (n : UnitName) (st : OwnState) (c : Call) (r : Reply) (f : Effect) → is_in_out c ≡ false → (after n st c r f).input ≡ st.input
after_keeps n st c r f h = by (is_accepted r)
  where
    by : (b : Bool) → (if b then changed n st c f else st).input ≡ st.input
    by true = changed_keeps n st c f h
    by false = refl
