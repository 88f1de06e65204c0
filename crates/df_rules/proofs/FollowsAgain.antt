-- A purged journal follows the same step functions.
use Rattle.df_rules.proofs.Names.{inl, inr, ◌≡◌, ℕ, List, [], ◌∷◌, ◌++◌, Bool, true, false, refl, sym, ◌∙◌, ap, subst, cond, Option, Some, None, ◌≢◌, is_some, option_map, option_or, flows_to, Label, commit_of, before_fixed, Laws, left, own, own_plain, fixed, fixed_by, is_within, echo, emitted, left_of, stays, purge, Rules, flows_to-trans, same_name-exact, same, OwnState, Fixed, Commit, Given, Entry, Done, Emitted, UnitName, Root, Managed, Reply}
use Rattle.df_rules.specs.Follows.{Brain, replies_of, wanted, root_began, began_with, EntryFollows, Follows}
use Rattle.df_rules.proofs.Invariant.{fixed_from}
use Rattle.df_rules.proofs.PurgeKeeps.{same_own, same_deliveries, fixed_agrees, fixed_by_skipped, began}
use Rattle.df_rules.proofs.Steps.{none_before, own_back, is_out}

replies-emitted : (u : UnitName) (oc : Option Commit) (past : List Entry) → replies_of u (emitted oc ++ past) ≡ replies_of u past
replies-emitted u None past = refl
replies-emitted u (Some c) past = refl

before-emitted : (R : Rules) (s : List OwnState) (oc : Option Commit) (past : List Entry) (o : List ℕ) (n : ℕ) → is_some (fixed R s past o n) ≡ true → before_fixed R s (emitted oc ++ past) o n ≡ before_fixed R s past o n
before-emitted R s None past o n h = refl
before-emitted R s (Some c) past o n h = rw h refl

module _ {B : Type 0} (brain : Brain B) (R : Rules) (s : List OwnState) (bs : List B) (laws : Laws R s) (l : Label) where
  -- who is not there has no entry
  no_replies : (past : List Entry) (u : UnitName) → Follows brain R s bs past → own R s past u ≡ None → replies_of u past ≡ []
  no_replies [] u follows h = refl
  no_replies (Emitted c ∷ past) u follows h = no_replies past u follows.0 (none_before R s (Emitted c) past u h)
  no_replies (Done a c r f ∷ past) u follows h = go (same a u) refl (no_replies past u follows.0 (none_before R s (Done a c r f) past u h))
    where
      go : (b : Bool) → same a u ≡ b → replies_of u past ≡ [] → cond b (r ∷ replies_of u past) (replies_of u past) ≡ []
      go true e ih =
          let here : own R s past u ≡ Some follows.1.0 = subst (λ (v : UnitName). own R s past v ≡ Some follows.1.0) (same_name-exact a u e) follows.1.2.own in
          let absent = none_before R s (Done a c r f) past u h in cc
      go false e ih = ih

  -- and none in the purge
  none_left : (past : List Entry) (u : UnitName) → replies_of u past ≡ [] → replies_of u (purge R s l past) ≡ []
  none_left [] u h = refl
  none_left (Emitted c ∷ past) u h = replies-emitted u (echo l (Some c)) (purge R s l past) ∙ none_left past u h
  none_left (Done a c r f ∷ past) u h = go (same a u) refl h (stays R s l past (Done a c r f)) (none_left past u)
    where
      go : (m : Bool) → same a u ≡ m → cond m (r ∷ replies_of u past) (replies_of u past) ≡ [] → (b : Bool) → (replies_of u past ≡ [] → replies_of u (purge R s l past) ≡ []) → replies_of u (left_of l b (Done a c r f) ++ purge R s l past) ≡ []
      go true e h b ih = absurd (let z : ⊥ = cc in z)
      go false e h true ih = rw e (ih h)
      go false e h false ih = replies-emitted u (echo l (commit_of (Done a c r f))) (purge R s l past) ∙ ih h

  -- a unit within the label keeps all its entries
  same_replies : (past : List Entry) (u : UnitName) (st : OwnState) → Follows brain R s bs past → own R s past u ≡ Some st → flows_to st.contamination l ≡ true → replies_of u (purge R s l past) ≡ replies_of u past
  same_replies [] u st follows h w = refl
  same_replies (Emitted c ∷ past) u st follows h w =
      elim (own_back R s laws l (Emitted c) past u st h w) [
        | inl absent ↦ (let none = no_replies past u follows.0 absent in replies-emitted u (echo l (Some c)) (purge R s l past) ∙ none_left past u none ∙ sym none)
        | inr there ↦ replies-emitted u (echo l (Some c)) (purge R s l past) ∙ same_replies past u there.0 follows.0 there.1 there.2
      ]
  same_replies (Done a c r f ∷ past) u st follows h w =
      elim (own_back R s laws l (Done a c r f) past u st h w) [
        | inl absent ↦ (let none = no_replies past u follows.0 absent in new (same a u) refl absent none (stays R s l past (Done a c r f)))
        | inr there ↦ old there.0 there.1 there.2 (same a u) refl (stays R s l past (Done a c r f)) refl (same_replies past u there.0 follows.0 there.1 there.2)
      ]
    where
      new : (m : Bool) → same a u ≡ m → own R s past u ≡ None → replies_of u past ≡ [] → (b : Bool) → replies_of u (left_of l b (Done a c r f) ++ purge R s l past) ≡ cond m (r ∷ replies_of u past) (replies_of u past)
      new true e absent none b =
          let here : own R s past u ≡ Some follows.1.0 = subst (λ (v : UnitName). own R s past v ≡ Some follows.1.0) (same_name-exact a u e) follows.1.2.own in
          absurd (let z : ⊥ = cc in z)
      new false e absent none true = rw e (none_left past u none ∙ sym none)
      new false e absent none false = replies-emitted u (echo l (commit_of (Done a c r f))) (purge R s l past) ∙ none_left past u none ∙ sym none

      old : (st0 : OwnState) → own R s past u ≡ Some st0 → flows_to st0.contamination l ≡ true → (m : Bool) → same a u ≡ m → (b : Bool) → stays R s l past (Done a c r f) ≡ b → replies_of u (purge R s l past) ≡ replies_of u past →
          replies_of u (left_of l b (Done a c r f) ++ purge R s l past) ≡ cond m (r ∷ replies_of u past) (replies_of u past)
      old st0 mine w true e true k ih = rw e (ap (λ (rs : List Reply). r ∷ rs) ih)
      old st0 mine w true e false k ih =
          let out : is_within l (own R s past u) ≡ false = subst (λ (v : UnitName). is_within l (own R s past v) ≡ false) (same_name-exact a u e) k in
          let z : flows_to st0.contamination l ≡ false = rw mine at out in absurd (let y : ⊥ = cc in y)
      old st0 mine w false e true k ih = rw e ih
      old st0 mine w false e false k ih = replies-emitted u (echo l (commit_of (Done a c r f))) (purge R s l past) ∙ ih

  follows_before : (past : List Entry) (o : List ℕ) (n : ℕ) → Follows brain R s bs past → Follows brain R s bs (before_fixed R s past o n)
  follows_before [] o n h = tt
  follows_before (e ∷ past) o n h = go (is_some (fixed R s past o n)) (follows_before past o n h.0)
    where
      go : (b : Bool) → Follows brain R s bs (before_fixed R s past o n) → Follows brain R s bs (cond b (before_fixed R s past o n) past)
      go true ih = ih
      go false ih = h.0

  -- what stood before a subscription of an owner within the label is purged by itself
  before_agrees : (past : List Entry) (o : List ℕ) (n : ℕ) (f : Fixed) → fixed R s past o n ≡ Some f → flows_to f.contamination l ≡ true → before_fixed R s (purge R s l past) o n ≡ purge R s l (before_fixed R s past o n)
  before_agrees [] o n f h w = refl
  before_agrees (e ∷ past) o n f h w = go (fixed R s past o n) refl h (stays R s l past e) refl (before_agrees past o n f)
    where
      go : (fx : Option Fixed) → fixed R s past o n ≡ fx → option_or fx (fixed_by R e o n (own_plain R s past o)) ≡ Some f → (b : Bool) → stays R s l past e ≡ b →
          (fixed R s past o n ≡ Some f → flows_to f.contamination l ≡ true → before_fixed R s (purge R s l past) o n ≡ purge R s l (before_fixed R s past o n)) →
          before_fixed R s (left_of l b e ++ purge R s l past) o n ≡ purge R s l (cond (is_some fx) (before_fixed R s past o n) past)
      go (Some g) m h true k ih =
          let same : g ≡ f = (let y = h in cc) in
          let there : fixed R s past o n ≡ Some f = m ∙ ap (λ (x : Fixed). Some x) same in
          let there_again : fixed R s (purge R s l past) o n ≡ Some f = (rw there at (fixed_agrees R s laws l past o n)) w in
          rw there_again (ih there w)
      go (Some g) m h false k ih =
          let same : g ≡ f = (let y = h in cc) in
          let there : fixed R s past o n ≡ Some f = m ∙ ap (λ (x : Fixed). Some x) same in
          let there_again : fixed R s (purge R s l past) o n ≡ Some f = (rw there at (fixed_agrees R s laws l past o n)) w in
          before-emitted R s (echo l (commit_of e)) (purge R s l past) o n (rw there_again refl) ∙ ih there w
      go None m h true k ih =
          let gone : fixed R s (purge R s l past) o n ≡ None = rw m at (fixed_agrees R s laws l past o n) in rw gone refl
      go None m h false k ih =
          let a = rw h at (fixed_by_skipped R s laws l e o n (own_plain R s past o) (is_out R s laws l past e k (Root o))) in
          let z = a w in absurd (let y : ⊥ = cc in y)

  same_began : (past : List Entry) (u : UnitName) (st : OwnState) → Follows brain R s bs past → own R s past u ≡ Some st → flows_to st.contamination l ≡ true → began_with brain R s bs (purge R s l past) u ≡ began_with brain R s bs past u
  same_began past (Root path) st follows h w = refl
  same_began past (Managed o n t) st follows h w =
      let b = rw h at (began R s laws l past o n t) in
      let recorded : flows_to b.0.contamination l ≡ true = flows_to-trans b.0.contamination st.contamination l b.2 w in
      let from = rw b.1 at (fixed_from R s past o n) in
      let owner : flows_to from.0.contamination l ≡ true = flows_to-trans from.0.contamination b.0.contamination l (laws.fixes_contamination from.0 n from.1 from.2 b.0 from.4) recorded in
      let e : replies_of (Root o) (before_fixed R s (purge R s l past) o n) ≡ replies_of (Root o) (before_fixed R s past o n) =
      ap (replies_of (Root o)) (before_agrees past o n b.0 b.1 recorded)
      ∙ same_replies (before_fixed R s past o n) (Root o) from.0 (follows_before past o n follows) from.3 owner in
      ap (λ (rs : List Reply). option_map (λ x. brain.instance (wanted brain x rs).1 n) (root_began bs o)) e

  entry_again : (past : List Entry) (e : Entry) → stays R s l past e ≡ true → Follows brain R s bs past → EntryFollows brain R s bs past e → EntryFollows brain R s bs (purge R s l past) e
  entry_again past (Emitted c) k follows h = tt
  entry_again past (Done u c r f) k follows h =
      let st = h.0 in
      let x = h.1 in
      let i = h.2 in
      let w : flows_to st.contamination l ≡ true = rw i.own at k in
      let rs = same_replies past u st follows i.own w in (
        st,
        x,
        record {
          own = same_own R s laws l past u st i.own w;
          begun = same_began past u st follows i.own w ∙ i.begun;
          call = elim i.call [
            | inl calls ↦ inl (ap (λ (rs : List Reply). (wanted brain x rs).0) rs ∙ calls)
            | inr waits ↦ inr (ap (λ (rs : List Reply). (wanted brain x rs).0) rs ∙ waits.0, waits.1, subst (λ (ds : List Given). left st ds ≢ []) (sym (same_deliveries R s laws l past u st i.own w)) waits.2)
          ];
        },
      )

  follows_emitted : (oc : Option Commit) (past : List Entry) → Follows brain R s bs past → Follows brain R s bs (emitted oc ++ past)
  follows_emitted None past h = h
  follows_emitted (Some c) past h = (h, tt)

  pub purge_follows : (past : List Entry) → Follows brain R s bs past → Follows brain R s bs (purge R s l past)
  purge_follows [] h = tt
  purge_follows (e ∷ past) h = go (stays R s l past e) refl (purge_follows past h.0)
    where
      go : (b : Bool) → stays R s l past e ≡ b → Follows brain R s bs (purge R s l past) → Follows brain R s bs (left_of l b e ++ purge R s l past)
      go true k ih = (ih, entry_again past e k h.0 h.1)
      go false k ih = follows_emitted (echo l (commit_of e)) (purge R s l past) ih
