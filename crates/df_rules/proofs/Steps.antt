-- What one more entry does to a unit, whatever the unit is.
use Rattle.df_rules.proofs.Names.{◌≡◌, ◌⊎◌, inl, inr, List, ◌∷◌, Bool, true, false, refl, sym, ap, subst, cond, Option, Some, None, option_map, option_and_then, option_or, flows_to, maker_of, Label, commit_of, Laws, stepped, made_by, own_plain, own_instance, own, fixed, born, is_within, stays, Rules, flows_to-trans, same_name-exact, same, OwnState, Entry, Done, Emitted, UnitName, Root, Managed}
use Rattle.df_rules.proofs.Agreement.{Agrees, contaminated, agrees_refl, IsOut, IsIn}

-- the state is the older one's, or the newer one's where there was none
pub or_is : {A : Type 0} (x y : Option A) (a : A) → option_or x y ≡ Some a → (x ≡ Some a) ⊎ ((x ≡ None) × (y ≡ Some a))
or_is None y a h = inr (refl, h)
or_is (Some b) y a h = inl h

module _ (R : Rules) (s : List OwnState) where
  pub step_none : (u : UnitName) (e : Entry) (o : Option OwnState) → o ≡ None → stepped R u e o ≡ None
  step_none u (Emitted c) o h = h
  step_none u (Done a c r f) o h = go (same a u)
    where
      go : (b : Bool) → cond b (option_map (λ st. R.after u st c r f) o) o ≡ None
      go true = ap (option_map (λ st. R.after u st c r f)) h
      go false = h

  -- who isn't there after an entry wasn't there before
  pub none_step : (u : UnitName) (e : Entry) (o : Option OwnState) → stepped R u e o ≡ None → o ≡ None
  none_step u e None h = refl
  none_step u (Emitted c) (Some st) h = h
  none_step u (Done a c r f) (Some st) h = split (same a u) h
    where
      split : (b : Bool) → cond b (option_map (λ st. R.after u st c r f) (Some st)) (Some st) ≡ None → Some st ≡ None
      split true h = absurd (let z : ⊥ = cc in z)
      split false h = h

  or_none_step : (u : UnitName) (e : Entry) (o y : Option OwnState) → option_or (stepped R u e o) y ≡ None → o ≡ None
  or_none_step u e o y h = none_step u e o (go (stepped R u e o) h)
    where
      go : (so : Option OwnState) → option_or so y ≡ None → so ≡ None
      go None h = refl
      go (Some st) h = absurd (let z : ⊥ = cc in z)

  pub none_before : (e : Entry) (past : List Entry) (u : UnitName) → own R s (e ∷ past) u ≡ None → own R s past u ≡ None
  none_before e past (Root path) h = or_none_step (Root path) e (own_plain R s past path) (made_by R e path (own_plain R s past (maker_of path))) h
  none_before e past (Managed o n t) h = or_none_step (Managed o n t) e (own_instance R s past o n t) (born R (fixed R s past o n) t past (commit_of e)) h

module _ (R : Rules) (s : List OwnState) (laws : Laws R s) (l : Label) where
  -- an entry that stays does the same to both
  pub step_agrees : (u : UnitName) (e : Entry) (o o' : Option OwnState) → Agrees contaminated l o o' → Agrees contaminated l (stepped R u e o) (stepped R u e o')
  step_agrees u (Emitted c) o o' h = h
  step_agrees u (Done a c r f) o o' h = go (same a u) o h
    where
      go : (b : Bool) (o : Option OwnState) → Agrees contaminated l o o' → Agrees contaminated l (cond b (option_map (λ st. R.after u st c r f) o) o) (cond b (option_map (λ st. R.after u st c r f) o') o')
      go true None h = ap (option_map (λ st. R.after u st c r f)) h
      go true (Some st) h = λ k. ap (option_map (λ st. R.after u st c r f)) (h (flows_to-trans st.contamination (R.after u st c r f).contamination l (laws.grows u st c r f) k))
      go false o h = h

  -- an entry that goes does nothing to a unit within the label
  pub skip_agrees : (u : UnitName) (e : Entry) (o o' : Option OwnState) → IsOut l u e o → Agrees contaminated l o o' → Agrees contaminated l (stepped R u e o) o'
  skip_agrees u (Emitted c) o o' out h = h
  skip_agrees u (Done a c r f) o o' out h = go (same a u) o out h
    where
      go : (b : Bool) (o : Option OwnState) → (b ≡ true → is_within l o ≡ false) → Agrees contaminated l o o' → Agrees contaminated l (cond b (option_map (λ st. R.after u st c r f) o) o) o'
      go true None out h = h
      go true (Some st) out h = λ k.
          let is_in = flows_to-trans st.contamination (R.after u st c r f).contamination l (laws.grows u st c r f) k in
          let not_in = out refl in cc
      go false o out h = h

  pub is_out : (past : List Entry) (e : Entry) → stays R s l past e ≡ false → (u : UnitName) → IsOut l u e (own R s past u)
  is_out past (Emitted c) h u = tt
  is_out past (Done a c r f) h u = λ k. subst (λ (v : UnitName). is_within l (own R s past v) ≡ false) (same_name-exact a u k) h

  pub is_in : (past : List Entry) (e : Entry) → stays R s l past e ≡ true → (u : UnitName) → IsIn l u e (own R s past u)
  is_in past (Emitted c) h u = tt
  is_in past (Done a c r f) h u = λ k. subst (λ (v : UnitName). is_within l (own R s past v) ≡ true) (same_name-exact a u k) h

  -- what an entry makes, where its actor is within l
  pub made_agrees : {A : Type 0} (label : A → Label) (makes : OwnState → Option A) (b : Bool) (st st' : Option OwnState) → (b ≡ true → is_within l st ≡ true) → Agrees contaminated l st st' →
      Agrees label l (cond b (option_and_then makes st) None) (cond b (option_and_then makes st') None)
  made_agrees label makes true None st' inside h = let k = inside refl in cc
  made_agrees {A} label makes true (Some st) st' inside h = rw (h (inside refl)) (agrees_refl label l (makes st))
  made_agrees label makes false st st' inside h = refl

  -- and where it is not
  pub made_skipped : {A : Type 0} (label : A → Label) (makes : OwnState → Option A) → ((st : OwnState) (x : A) → makes st ≡ Some x → flows_to st.contamination (label x) ≡ true) →
      (b : Bool) (st : Option OwnState) → (b ≡ true → is_within l st ≡ false) → Agrees label l (cond b (option_and_then makes st) None) None
  made_skipped label makes law true None out = refl
  made_skipped {A} label makes law true (Some st) out = go (makes st) refl
    where
      go : (x : Option A) → makes st ≡ x → Agrees label l x None
      go None e = refl
      go (Some x) e = λ k. let is_in = flows_to-trans st.contamination (label x) l (law st x e) k in let not_in = out refl in cc
  made_skipped label makes law false st out = refl

  -- a unit within the label was within it before the entry
  pub step_back : (u : UnitName) (e : Entry) (o : Option OwnState) (st' : OwnState) → stepped R u e o ≡ Some st' → flows_to st'.contamination l ≡ true → (st : OwnState) × (o ≡ Some st) × (flows_to st.contamination l ≡ true)
  step_back u (Emitted c) o st' h k = (st', h, k)
  step_back u (Done a c r f) o st' h k = go (same a u) o h
    where
      go : (b : Bool) (o : Option OwnState) → cond b (option_map (λ st. R.after u st c r f) o) o ≡ Some st' → (st : OwnState) × (o ≡ Some st) × (flows_to st.contamination l ≡ true)
      go true None h = absurd (let z : ⊥ = cc in z)
      go true (Some st) h =
          let e : R.after u st c r f ≡ st' = cc in
          (st, refl, flows_to-trans st.contamination (R.after u st c r f).contamination l (laws.grows u st c r f) (subst (λ (z : OwnState). flows_to z.contamination l ≡ true) (sym e) k))
      go false o h = (st', h, k)

  or_back : (u : UnitName) (e : Entry) (o y : Option OwnState) (st' : OwnState) → option_or (stepped R u e o) y ≡ Some st' → flows_to st'.contamination l ≡ true → (o ≡ None) ⊎ ((st : OwnState) × (o ≡ Some st) × (flows_to st.contamination l ≡ true))
  or_back u e o y st' h k =
      elim (or_is (stepped R u e o) y st' h) [
        | inl step ↦ inr (step_back u e o st' step k)
        | inr birth ↦ inl (none_step R s u e o birth.0)
      ]

  -- a unit within the label was not there, or was within it
  pub own_back : (e : Entry) (past : List Entry) (u : UnitName) (st : OwnState) → own R s (e ∷ past) u ≡ Some st → flows_to st.contamination l ≡ true → (own R s past u ≡ None) ⊎ ((st : OwnState) × (own R s past u ≡ Some st) × (flows_to st.contamination l ≡ true))
  own_back e past (Root path) st h w = or_back (Root path) e (own_plain R s past path) (made_by R e path (own_plain R s past (maker_of path))) st h w
  own_back e past (Managed o n t) st h w = or_back (Managed o n t) e (own_instance R s past o n t) (born R (fixed R s past o n) t past (commit_of e)) st h w
