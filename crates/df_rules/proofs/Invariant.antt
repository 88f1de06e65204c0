-- What is so of the roots and is kept by entries, instances and children, is so of every unit in any journal.
use Rattle.df_rules.proofs.Names.{◌≡◌, ℕ, List, [], ◌∷◌, Bool, true, false, refl, cond, Option, Some, None, ⊤, is_some, slice_get, option_map, option_and_then, option_or, maker_of, number_of, is_subset, spared, commit_of, contents, before_fixed, stepped, made_by, own_plain, own_instance, own, fixed, fixed_by, is_given, born, Rules, same, OwnState, Fixed, Call, Commit, Effect, Entry, Done, Emitted, UnitName, Root, Managed, Reply}
use Rattle.df_rules.proofs.CutFacts.{gives_within}

-- it is so of the unit, if there is one
abbrev pub IfThere : (OwnState → Type 0) → Option OwnState → Type 0
IfThere P None = ⊤
IfThere P (Some st) = P st

-- it is so of the roots, and entries and children keep it
pub record PlainInvariant (R : Rules) (s : List OwnState) (P : OwnState → Type 0) : Type 0 where
  pub first : (k : ℕ) (st : OwnState) → slice_get s k ≡ Some st → P st
  pub step : (u : UnitName) (st : OwnState) (c : Call) (r : Reply) (f : Effect) → P st → P (R.after u st c r f)
  pub child : (st : OwnState) (k : ℕ) (c : Call) (r : Reply) (ch : OwnState) → R.makes st k c r ≡ Some ch → P st → P ch

-- where a fixed record came from: the owner's state after the entries before the subscription
abbrev pub FixedFrom : Rules → List OwnState → List Entry → List ℕ → ℕ → Option Fixed → Type 0
FixedFrom R s before o n None = ⊤
FixedFrom R s before o n (Some f) = (st : OwnState) × (c : Call) × (r : Reply) × (own_plain R s before o ≡ Some st) × (R.fixes st n c r ≡ Some f)

-- the set of a choice holds the base
pub base_within : (f : Fixed) (t : List (List ℕ)) (past : List Entry) (oc : Option Commit) → is_given (Some f) t past oc ≡ true → is_subset f.base t ≡ true
base_within f t past None h = absurd (let z : ⊥ = cc in z)
base_within f t past (Some c) h = gives_within f.filter f.input_integrity t f.base false (spared c.edit.0 (contents past c.event)) c.edit.1 h

module _ (R : Rules) (s : List OwnState) where
  pub fixed_from : (past : List Entry) (o : List ℕ) (n : ℕ) → FixedFrom R s (before_fixed R s past o n) o n (fixed R s past o n)
  fixed_from [] o n = tt
  fixed_from (e ∷ past) o n = go (fixed R s past o n) (fixed_from past o n)
    where
      by_record : (c : Call) (r : Reply) (st : OwnState) → own_plain R s past o ≡ Some st → (fx : Option Fixed) → R.fixes st n c r ≡ fx → FixedFrom R s past o n fx
      by_record c r st h None k = tt
      by_record c r st h (Some f) k = (st, c, r, h, k)

      by_owner : (c : Call) (r : Reply) (b : Bool) (st : Option OwnState) → own_plain R s past o ≡ st → FixedFrom R s past o n (cond b (option_and_then (λ st. R.fixes st n c r) st) None)
      by_owner c r true None h = tt
      by_owner c r true (Some st) h = by_record c r st h (R.fixes st n c r) refl
      by_owner c r false st h = tt

      by_entry : (e : Entry) → FixedFrom R s past o n (fixed_by R e o n (own_plain R s past o))
      by_entry (Done a c r f) = by_owner c r (same a (Root o)) (own_plain R s past o) refl
      by_entry (Emitted c) = tt

      go : (fx : Option Fixed) → FixedFrom R s (before_fixed R s past o n) o n fx → FixedFrom R s (cond (is_some fx) (before_fixed R s past o n) past) o n (option_or fx (fixed_by R e o n (own_plain R s past o)))
      go None ih = by_entry e
      go (Some f) ih = ih

  module _ (P : OwnState → Type 0) (kept : PlainInvariant R s P) where
    stepped_holds : (u : UnitName) (e : Entry) (o : Option OwnState) → IfThere P o → IfThere P (stepped R u e o)
    stepped_holds u (Emitted c) o h = h
    stepped_holds u (Done a c r f) o h = go (same a u) o h
      where
        go : (b : Bool) (o : Option OwnState) → IfThere P o → IfThere P (cond b (option_map (λ st. R.after u st c r f) o) o)
        go true None h = tt
        go true (Some st) h = kept.step u st c r f h
        go false o h = h

    made_holds : (e : Entry) (path : List ℕ) (maker : Option OwnState) → IfThere P maker → IfThere P (made_by R e path maker)
    made_holds (Emitted c) path maker h = tt
    made_holds (Done a c r f) path maker h = by (same a (Root (maker_of path))) maker h
      where
        child : (st : OwnState) → P st → (x : Option OwnState) → R.makes st (number_of path) c r ≡ x → IfThere P x
        child st h None e = tt
        child st h (Some ch) e = kept.child st (number_of path) c r ch e h

        by : (b : Bool) (maker : Option OwnState) → IfThere P maker → IfThere P (cond b (option_and_then (λ st. R.makes st (number_of path) c r) maker) None)
        by true None h = tt
        by true (Some st) h = child st h (R.makes st (number_of path) c r) refl
        by false maker h = tt

    either_holds : (x y : Option OwnState) → IfThere P x → IfThere P y → IfThere P (option_or x y)
    either_holds None y h k = k
    either_holds (Some st) y h k = h

    first_holds : (k : ℕ) (o : Option OwnState) → slice_get s k ≡ o → IfThere P o
    first_holds k None e = tt
    first_holds k (Some st) e = kept.first k st e

    pub plain_holds : (past : List Entry) (path : List ℕ) → IfThere P (own_plain R s past path)
    plain_holds [] [] = tt
    plain_holds [] (k ∷ []) = first_holds k (slice_get s k) refl
    plain_holds [] (k ∷ m ∷ path) = tt
    plain_holds (e ∷ past) path =
        either_holds (stepped R (Root path) e (own_plain R s past path)) (made_by R e path (own_plain R s past (maker_of path)))
        (stepped_holds (Root path) e (own_plain R s past path) (plain_holds past path))
        (made_holds e path (own_plain R s past (maker_of path)) (plain_holds past (maker_of path)))

    module _ (birth : (st : OwnState) (n : ℕ) (c : Call) (r : Reply) (f : Fixed) (t : List (List ℕ)) → R.fixes st n c r ≡ Some f → is_subset f.base t ≡ true → P st → P (R.begin f t)) where
      born_holds : (past : List Entry) (o : List ℕ) (n : ℕ) (t : List (List ℕ)) (oc : Option Commit) → IfThere P (born R (fixed R s past o n) t past oc)
      born_holds past o n t oc = go (fixed R s past o n) (fixed_from past o n)
        where
          owner_holds : (st : OwnState) → own_plain R s (before_fixed R s past o n) o ≡ Some st → P st
          owner_holds st h = rw h at (plain_holds (before_fixed R s past o n) o)

          given : (f : Fixed) → FixedFrom R s (before_fixed R s past o n) o n (Some f) → (b : Bool) → is_given (Some f) t past oc ≡ b → IfThere P (cond b (Some (R.begin f t)) None)
          given f from true h = birth from.0 n from.1 from.2 f t from.4 (base_within f t past oc h) (owner_holds from.0 from.3)
          given f from false h = tt

          go : (fx : Option Fixed) → FixedFrom R s (before_fixed R s past o n) o n fx → IfThere P (born R fx t past oc)
          go None from = tt
          go (Some f) from = given f from (is_given (Some f) t past oc) refl

      instance_holds : (past : List Entry) (o : List ℕ) (n : ℕ) (t : List (List ℕ)) → IfThere P (own_instance R s past o n t)
      instance_holds [] o n t = tt
      instance_holds (e ∷ past) o n t =
          either_holds (stepped R (Managed o n t) e (own_instance R s past o n t)) (born R (fixed R s past o n) t past (commit_of e))
          (stepped_holds (Managed o n t) e (own_instance R s past o n t) (instance_holds past o n t))
          (born_holds past o n t (commit_of e))

      pub own_holds : (past : List Entry) (u : UnitName) (st : OwnState) → own R s past u ≡ Some st → P st
      own_holds past (Root path) st h = rw h at (plain_holds past path)
      own_holds past (Managed o n t) st h = rw h at (instance_holds past o n t)
