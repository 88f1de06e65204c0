-- What one more entry of a unit makes of units, subscriptions, deliveries and replies.
use Rattle.std.proofs.Common.{◌≡◌, ◌⊎◌, inl, inr, ℕ, List, [], ◌∷◌, ◌++◌, Bool, true, false, refl, ◌∙◌, ap, subst, cond, Option, Some, None}
use Rattle.std.proofs.lemmas.List.{append-nil}
use Rattle.std.specs.Prelude.{is_some, option_and_then}
use Rattle.std.specs.Option.{option_map, option_or}
use Rattle.df_filter.specs.declared.clause.Clause.{Clause}
use Rattle.df_label.specs.Tag.{maker_of}
use Rattle.df_rules.specs.Commits.{commit_in, commit_of}
use Rattle.df_rules.specs.Deliveries.{deliveries, deliveries_instance, deliveries_plain, instance_news, plain_news}
use Rattle.df_rules.specs.Exercised.{before_fixed}
use Rattle.df_rules.specs.Follows.{Brain, began_with, replies_of, root_began, wanted}
use Rattle.df_rules.specs.Grows.{HasGrown}
use Rattle.df_rules.specs.Own.{born, fixed, fixed_by, made_by, own, own_instance, own_plain, stepped}
use Rattle.df_rules.specs.Start.{rows}
use Rattle.df_rules.specs.Subscriptions.{subscriptions}
use Rattle.df_rules.proofs.Growth.{grown_after, own_grows}
use Rattle.df_unit.specs.Beginnings.{fixes}
use Rattle.df_unit.specs.Name.{same}
use Rattle.df_unit.specs.OwnState.{Fixed, OwnState}
use Rattle.df_unit.specs.Rows.{after}
use Rattle.df_unit.specs.declared.call.Call.{Call}
use Rattle.df_unit.specs.declared.commit.Commit.{Commit}
use Rattle.df_unit.specs.declared.commit.Given.{Given}
use Rattle.df_unit.specs.declared.entry.Effect.{Effect}
use Rattle.df_unit.specs.declared.entry.Entry.{Entry}
use Rattle.df_unit.specs.declared.entry.Entry.TheVariants.{Done, Emitted}
use Rattle.df_unit.specs.declared.name.UnitName.{UnitName}
use Rattle.df_unit.specs.declared.name.UnitName.TheVariants.{Managed, Root}
use Rattle.df_unit.specs.declared.reply.Reply.{Reply}
use Rattle.df_unit.proofs.SameFacts.{same_name-exact, same_name_decides}

pub same_self : (u : UnitName) → same u u ≡ true
same_self u = (same_name_decides u u).1 refl

-- replies

module _ (a : UnitName) (c : Call) (r : Reply) (f : Effect) (past : List Entry) where
  pub replies_more : replies_of a (Done a c r f ∷ past) ≡ r ∷ replies_of a past
  replies_more = ap (λ (b : Bool). cond b (r ∷ replies_of a past) (replies_of a past)) (same_self a)

  pub replies_kept : (u : UnitName) → same a u ≡ false → replies_of u (Done a c r f ∷ past) ≡ replies_of u past
  replies_kept u e = ap (λ (b : Bool). cond b (r ∷ replies_of u past) (replies_of u past)) e

no_plain_news : (o : Option OwnState) (subs : List (ℕ × List Clause)) (ds : List Given) (past : List Entry) → plain_news o subs ds past None ≡ []
no_plain_news None subs ds past = refl
no_plain_news (Some st) subs ds past = refl

no_instance_news : (fx : Option Fixed) (n : ℕ) (t : List (List ℕ)) (ds : List Given) (past : List Entry) → instance_news fx n t ds past None ≡ []
no_instance_news None n t ds past = refl
no_instance_news (Some f) n t ds past = refl

or_some : {A : Type 0} (x y : Option A) (v : A) → x ≡ Some v → option_or x y ≡ Some v
or_some None y v h = absurd (let z : ⊥ = cc in z)
or_some (Some w) y v h = h

pub some_is : {A : Type 0} (x : Option A) (v : A) → x ≡ Some v → is_some x ≡ true
some_is None v h = absurd (let z : ⊥ = cc in z)
some_is (Some w) v h = refl

module _ (s : List OwnState) where
  -- the unit's own state is as its entry leaves it
  pub own_acted : (past : List Entry) (a : UnitName) (c : Call) (r : Reply) (f : Effect) (st : OwnState) → own rows s past a ≡ Some st →
      own rows s (Done a c r f ∷ past) a ≡ Some (after a st c r f)
  own_acted past a c r f st h = by a h
    where
      go : (u : UnitName) (o y : Option OwnState) → o ≡ Some st → option_or (cond (same u u) (option_map (λ st. after u st c r f) o) o) y ≡ Some (after u st c r f)
      go u None y e = absurd (let z : ⊥ = cc in z)
      go u (Some st0) y e = rw (same_self u) (let k : st0 ≡ st = (let j = e in cc) in ap (λ (x : OwnState). Some (after u x c r f)) k)

      by : (u : UnitName) → own rows s past u ≡ Some st → own rows s (Done u c r f ∷ past) u ≡ Some (after u st c r f)
      by (Root path) k = go (Root path) (own_plain rows s past path) (made_by rows (Done (Root path) c r f) path (own_plain rows s past (maker_of path))) k
      by (Managed o n t) k = go (Managed o n t) (own_instance rows s past o n t) (born rows (fixed rows s past o n) t past (commit_in f)) k

  -- who exists goes on to exist
  pub exists_kept : (e : Entry) (past : List Entry) (u : UnitName) (st : OwnState) → own rows s past u ≡ Some st →
      (later : OwnState) × (own rows s (e ∷ past) u ≡ Some later) × HasGrown st later
  exists_kept e past u st h = own_grows rows s grown_after (e ∷ []) past u st h

  -- an entry without a commit brings nobody anything
  pub deliveries_kept : (past : List Entry) (a : UnitName) (c : Call) (r : Reply) (f : Effect) → commit_in f ≡ None → (u : UnitName) →
      deliveries rows s (Done a c r f ∷ past) u ≡ deliveries rows s past u
  deliveries_kept past a c r f quiet (Root path) =
      let ds = deliveries_plain rows s past path in
      ap (λ (oc : Option Commit). ds ++ plain_news (own_plain rows s past path) (subscriptions rows s past (Root path)) ds past oc) quiet
      ∙ ap (λ (more : List Given). ds ++ more) (no_plain_news (own_plain rows s past path) (subscriptions rows s past (Root path)) ds past) ∙ append-nil ds
  deliveries_kept past a c r f quiet (Managed o n t) =
      let ds = deliveries_instance rows s past o n t in
      ap (λ (oc : Option Commit). ds ++ instance_news (fixed rows s past o n) n t ds past oc) quiet
      ∙ ap (λ (more : List Given). ds ++ more) (no_instance_news (fixed rows s past o n) n t ds past) ∙ append-nil ds

  -- subscriptions

  -- a record stays
  pub fixed_kept : (e : Entry) (past : List Entry) (o : List ℕ) (n : ℕ) (fx : Fixed) → fixed rows s past o n ≡ Some fx → fixed rows s (e ∷ past) o n ≡ Some fx
  fixed_kept e past o n fx h = or_some (fixed rows s past o n) (fixed_by rows e o n (own_plain rows s past o)) fx h

  -- an instance that exists has a record
  pub recorded : (past : List Entry) (o : List ℕ) (n : ℕ) (t : List (List ℕ)) (st : OwnState) → own_instance rows s past o n t ≡ Some st → (fx : Fixed) × (fixed rows s past o n ≡ Some fx)
  recorded [] o n t st h = absurd (let z : ⊥ = cc in z)
  recorded (e ∷ past) o n t st h = go (own_instance rows s past o n t) refl (fixed rows s past o n) refl (recorded past o n t)
    where
      here : (x : Option OwnState) (fx : Option Fixed) → own_instance rows s past o n t ≡ x → fixed rows s past o n ≡ fx →
          option_or (stepped rows (Managed o n t) e x) (born rows fx t past (commit_of e)) ≡ Some st
      here x fx p q = subst (λ (x : Option OwnState). option_or (stepped rows (Managed o n t) e x) (born rows fx t past (commit_of e)) ≡ Some st) p
          (subst (λ (fx : Option Fixed). option_or (stepped rows (Managed o n t) e (own_instance rows s past o n t)) (born rows fx t past (commit_of e)) ≡ Some st) q h)

      nobody : (e : Entry) → stepped rows (Managed o n t) e None ≡ None
      nobody (Done a c r f) = by (same a (Managed o n t))
        where
          by : (b : Bool) → cond b (option_map (λ st. after (Managed o n t) st c r f) None) None ≡ (let x : Option OwnState = None in x)
          by true = refl
          by false = refl
      nobody (Emitted k) = refl

      none : option_or (stepped rows (Managed o n t) e None) (born rows None t past (commit_of e)) ≡ None
      none = ap (λ (x : Option OwnState). option_or x None) (nobody e)

      go : (x : Option OwnState) → own_instance rows s past o n t ≡ x → (fx : Option Fixed) → fixed rows s past o n ≡ fx →
          ((st : OwnState) → own_instance rows s past o n t ≡ Some st → (fx : Fixed) × (fixed rows s past o n ≡ Some fx)) → (fx : Fixed) × (fixed rows s (e ∷ past) o n ≡ Some fx)
      go (Some st0) p fx q ih = let before = ih st0 p in (before.0, fixed_kept e past o n before.0 before.1)
      go None p (Some fx) q ih = (fx, fixed_kept e past o n fx q)
      go None p None q ih = let k = here None None p q in let z : ⊥ = (let y = none in cc) in absurd z

  -- what stands before a subscription stays
  pub before_kept : (e : Entry) (past : List Entry) (o : List ℕ) (n : ℕ) (fx : Fixed) → fixed rows s past o n ≡ Some fx → before_fixed rows s (e ∷ past) o n ≡ before_fixed rows s past o n
  before_kept e past o n fx h = ap (λ (b : Bool). cond b (before_fixed rows s past o n) past) (some_is (fixed rows s past o n) fx h)

  pub before_new : (e : Entry) (past : List Entry) (o : List ℕ) (n : ℕ) → fixed rows s past o n ≡ None → before_fixed rows s (e ∷ past) o n ≡ past
  before_new e past o n h = ap (λ (x : Option Fixed). cond (is_some x) (before_fixed rows s past o n) past) h

  -- the entry makes the subscription
  pub record Fixes (past : List Entry) (a : UnitName) (c : Call) (r : Reply) (o : List ℕ) (n : ℕ) (fx : Fixed) : Type 0 where
    pub none : fixed rows s past o n ≡ None
    pub actor : a ≡ Root o
    pub st : OwnState
    pub owner : own_plain rows s past o ≡ Some st
    pub made : fixes st n c r ≡ Some fx

  pub fixed_or : (past : List Entry) (a : UnitName) (c : Call) (r : Reply) (f : Effect) (o : List ℕ) (n : ℕ) (fx : Fixed) → fixed rows s (Done a c r f ∷ past) o n ≡ Some fx →
      (fixed rows s past o n ≡ Some fx) ⊎ Fixes past a c r o n fx
  fixed_or past a c r f o n fx h = go (fixed rows s past o n) refl h
    where
      by : (b : Bool) → same a (Root o) ≡ b → (x : Option OwnState) → own_plain rows s past o ≡ x → fixed rows s past o n ≡ None → cond b (option_and_then (λ st. fixes st n c r) x) None ≡ Some fx → Fixes past a c r o n fx
      by true e None p q k = absurd (let z : ⊥ = cc in z)
      by true e (Some st) p q k = record { none = q; actor = same_name-exact a (Root o) e; st = st; owner = p; made = k }
      by false e x p q k = absurd (let z : ⊥ = cc in z)

      go : (x : Option Fixed) → fixed rows s past o n ≡ x → option_or x (fixed_by rows (Done a c r f) o n (own_plain rows s past o)) ≡ Some fx → (fixed rows s past o n ≡ Some fx) ⊎ Fixes past a c r o n fx
      go (Some y) e k = inl (e ∙ k)
      go None e k = inr (by (same a (Root o)) refl (own_plain rows s past o) refl e k)

  module _ {B : Type 0} (brain : Brain B) (bs : List B) where
    -- a recorded subscription's instances go on to begin as they did
    pub seed_kept : (e : Entry) (past : List Entry) (o : List ℕ) (n : ℕ) (t : List (List ℕ)) (fx : Fixed) → fixed rows s past o n ≡ Some fx →
        began_with brain rows s bs (e ∷ past) (Managed o n t) ≡ began_with brain rows s bs past (Managed o n t)
    seed_kept e past o n t fx h = ap (λ (before : List Entry). option_map (λ x. brain.instance (wanted brain x (replies_of (Root o) before)).1 n) (root_began bs o)) (before_kept e past o n fx h)

    -- and who exists
    pub began_kept : (e : Entry) (past : List Entry) (u : UnitName) (st : OwnState) → own rows s past u ≡ Some st →
        began_with brain rows s bs (e ∷ past) u ≡ began_with brain rows s bs past u
    began_kept e past (Root path) st h = refl
    began_kept e past (Managed o n t) st h = let k = recorded past o n t st h in seed_kept e past o n t k.0 k.1
