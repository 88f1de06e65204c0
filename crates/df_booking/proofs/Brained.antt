-- What one more entry of a unit makes of its brain, and of the brains of others.
use Rattle.std.proofs.Common.{◌≡◌, ◌≢◌, ◌⊎◌, inl, inr, ℕ, ◌<◌, List, [], ◌∷◌, Bool, true, false, refl, sym, ◌∙◌, ap, subst, cond, Option, Some, None, arith, eqb-true}
use Rattle.std.specs.Prelude.{◌==◌, nat_le, option_and_then}
use Rattle.std.specs.Option.{option_map, option_or}
use Rattle.df_brain.specs.Brain.{is_child_wanted, makes_child}
use Rattle.df_filter.specs.declared.clause.Clause.{Clause}
use Rattle.df_rules.specs.Deliveries.{deliveries}
use Rattle.df_rules.specs.Follows.{Brain, Calls, EntryFollows, Follows, Last, Replied, Wait, began_with}
use Rattle.df_rules.specs.Legal.{Legal, answer, answer_of, left}
use Rattle.df_rules.specs.Own.{fixed, own, own_plain}
use Rattle.df_rules.specs.Start.{rows}
use Rattle.df_unit.specs.Beginnings.{fixes, makes}
use Rattle.df_unit.specs.Limits.{most_subs}
use Rattle.df_unit.specs.Name.{same}
use Rattle.df_unit.specs.OwnState.{Fixed, OwnState}
use Rattle.df_unit.specs.Rows.{after, subscribed}
use Rattle.df_unit.specs.declared.call.Call.{Call}
use Rattle.df_unit.specs.declared.call.Call.TheVariants.{Get, Instantiate, SubscribeManaged}
use Rattle.df_unit.specs.declared.entry.Effect.{Effect}
use Rattle.df_unit.specs.declared.entry.Entry.{Entry}
use Rattle.df_unit.specs.declared.entry.Entry.TheVariants.{Done, Emitted}
use Rattle.df_unit.specs.declared.name.UnitName.{UnitName}
use Rattle.df_unit.specs.declared.name.UnitName.TheVariants.{Root}
use Rattle.df_unit.specs.declared.reply.Reply.{Reply}
use Rattle.df_booking.specs.Minds.{mind_from, mind_of}
use Rattle.df_booking.proofs.Entries.{Fixes, began_kept, exists_kept, fixed_or, own_acted, replies_kept, replies_more}

-- who makes a record makes a managed subscription, and is answered its number
pub made_is : (st : OwnState) (n : ℕ) (c : Call) (r : Reply) (fx : Fixed) → fixes st n c r ≡ Some fx → (filter : List Clause) × (c ≡ SubscribeManaged filter) × (r ≡ Reply.Sub n)
made_is st n (SubscribeManaged filter) (Reply.Sub m) fx h = go (m == n) refl h
  where
    go : (b : Bool) → (m == n) ≡ b → cond b (Some (Rattle.df_unit.specs.Beginnings.fixed_of st filter)) None ≡ Some fx → (clauses : List Clause) × (SubscribeManaged filter ≡ SubscribeManaged clauses) × (Reply.Sub m ≡ Reply.Sub n)
    go true e k = (filter, refl, ap Reply.Sub (eqb-true m n e))
    go false e k = absurd (let z : ⊥ = cc in z)
made_is st n (SubscribeManaged filter) _ fx h = absurd (let z : ⊥ = cc in z)
made_is st n _ r fx h = absurd (let z : ⊥ = cc in z)

-- a plain unit's subscription is answered the count of those before
pub subscribed_is : (o : List ℕ) (st : OwnState) (n : ℕ) → subscribed (Root o) st ≡ Reply.Sub n → n ≡ st.subs
subscribed_is o st n h = go (nat_le most_subs st.subs) h
  where
    go : (b : Bool) → cond b Reply.TooManySubs (Reply.Sub st.subs) ≡ Reply.Sub n → n ≡ st.subs
    go true k = absurd (let z : ⊥ = cc in z)
    go false k = let z : st.subs ≡ n = cc in sym z

pub makes_nothing : (st : OwnState) (k : ℕ) (c : Call) (r : Reply) → makes_child c ≡ false → makes st k c r ≡ None
makes_nothing st k (Instantiate t privileges) r h = absurd (let z : ⊥ = cc in z)
makes_nothing st k _ r h = refl

-- an entry that follows a brain which never wants to make a unit makes none
pub makes_none : {B : Type 0} (brain : Brain B) → ((b : B) (l : Last) → is_child_wanted (brain.next b l).0 ≡ false) → (s : List OwnState) (bs : List B) (past : List Entry) (a : UnitName) (c : Call) (r : Reply) (f : Effect) →
    EntryFollows brain rows s bs past (Done a c r f) → (b : Bool) (x : Option OwnState) (n : ℕ) → cond b (option_and_then (λ st. makes st n c r) x) None ≡ None
makes_none brain law s bs past a c r f follows b x n = made b x
  where
    childless : makes_child c ≡ false
    childless = elim follows.2.call [
      | inl calls ↦ (ap is_child_wanted (sym calls) ∙ law _ _)
      | inr waits ↦ ap makes_child waits.1
    ]

    made : (b : Bool) (x : Option OwnState) → cond b (option_and_then (λ st. makes st n c r) x) None ≡ None
    made true None = refl
    made true (Some st) = makes_nothing st n c r childless
    made false x = refl

module _ (s : List OwnState) where
  -- the numbers of managed subscriptions are below the count of their owner's subscriptions
  pub fixed_counted : (past : List Entry) → Legal rows s past → (o : List ℕ) (n : ℕ) (fx : Fixed) → fixed rows s past o n ≡ Some fx →
      (st : OwnState) × (own_plain rows s past o ≡ Some st) × (n < st.subs)
  fixed_counted [] legal o n fx h = absurd (let z : ⊥ = cc in z)
  fixed_counted (Emitted c ∷ past) legal o n fx h = by (fixed rows s past o n) refl h (fixed_counted past legal.0 o n)
    where
      by : (x : Option Fixed) → fixed rows s past o n ≡ x → option_or x None ≡ Some fx → ((fx : Fixed) → fixed rows s past o n ≡ Some fx → (st : OwnState) × (own_plain rows s past o ≡ Some st) × (n < st.subs)) →
          (st : OwnState) × (own_plain rows s (Emitted c ∷ past) o ≡ Some st) × (n < st.subs)
      by None e k ih = absurd (let z : ⊥ = cc in z)
      by (Some y) e k ih =
          let b = ih y e in
          let later = exists_kept s (Emitted c) past (Root o) b.0 b.1 in
          (later.0, later.1, let x = later.2.subs in let z = b.2 in omega arith)
  fixed_counted (Done a c r f ∷ past) legal o n fx h = elim (fixed_or s past a c r f o n fx h) [
    | inl there ↦ (let b = fixed_counted past legal.0 o n fx there in
        let later = exists_kept s (Done a c r f) past (Root o) b.0 b.1 in
        (later.0, later.1, let x = later.2.subs in let z = b.2 in omega arith))
    | inr new ↦ by new (made_is new.st n c r fx new.made)
  ]
    where
      by : (new : Fixes s past a c r o n fx) → ((filter : List Clause) × (c ≡ SubscribeManaged filter) × (r ≡ Reply.Sub n)) → (st : OwnState) × (own_plain rows s (Done a c r f ∷ past) o ≡ Some st) × (n < st.subs)
      by new (filter, is_call, is_reply) =
          let right : answer rows s past (Root o) (SubscribeManaged filter) ≡ (Reply.Sub n, f) =
          subst (λ (v : UnitName). answer rows s past v (SubscribeManaged filter) ≡ (Reply.Sub n, f)) new.actor
          (subst (λ (k : Call). answer rows s past a k ≡ (Reply.Sub n, f)) is_call (subst (λ (q : Reply). answer rows s past a c ≡ (q, f)) is_reply legal.1)) in
          let here : ◌≡◌ {A = Reply × Effect} (subscribed (Root o) new.st, Effect.Nothing) (Reply.Sub n, f) =
          subst (λ (x : Option OwnState). answer_of rows (Root o) x (deliveries rows s past (Root o)) (SubscribeManaged filter) ≡ (Reply.Sub n, f)) new.owner right in
          let number : n ≡ new.st.subs = subscribed_is o new.st n (ap (λ (p : Reply × Effect). p.0) here) in
          let own_is : own rows s (Done (Root o) (SubscribeManaged filter) (Reply.Sub n) f ∷ past) (Root o) ≡ Some (after (Root o) new.st (SubscribeManaged filter) (Reply.Sub n) f) =
          own_acted s past (Root o) (SubscribeManaged filter) (Reply.Sub n) f new.st new.owner in
          let moved = subst (λ (v : UnitName). own rows s (Done v (SubscribeManaged filter) (Reply.Sub n) f ∷ past) (Root o) ≡ Some (after (Root o) new.st (SubscribeManaged filter) (Reply.Sub n) f)) (sym new.actor) own_is in
          let moved_call = subst (λ (k : Call). own rows s (Done a k (Reply.Sub n) f ∷ past) (Root o) ≡ Some (after (Root o) new.st (SubscribeManaged filter) (Reply.Sub n) f)) (sym is_call) moved in
          let moved_reply = subst (λ (q : Reply). own rows s (Done a c q f ∷ past) (Root o) ≡ Some (after (Root o) new.st (SubscribeManaged filter) (Reply.Sub n) f)) (sym is_reply) moved_call in
          (after (Root o) new.st (SubscribeManaged filter) (Reply.Sub n) f, moved_reply, omega arith)

  module _ {B : Type 0} (brain : Brain B) (bs : List B) where
    -- the brain of another unit stays
    pub mind_kept : (past : List Entry) (a : UnitName) (c : Call) (r : Reply) (f : Effect) (u : UnitName) (st : OwnState) → own rows s past u ≡ Some st → same a u ≡ false →
        mind_of brain s bs (Done a c r f ∷ past) u ≡ mind_of brain s bs past u
    mind_kept past a c r f u st here e =
        ap (option_map (mind_from brain (Done a c r f ∷ past) u)) (began_kept s brain bs (Done a c r f) past u st here)
        ∙ by (began_with brain rows s bs past u)
      where
        by : (x : Option B) → option_map (mind_from brain (Done a c r f ∷ past) u) x ≡ option_map (mind_from brain past u) x
        by None = refl
        by (Some x) = ap (λ (rs : List Reply). Some (Rattle.df_rules.specs.Follows.state_after brain x rs, Rattle.df_rules.specs.Follows.last_of rs)) (replies_kept a c r f past u e)

    -- the brain of the unit goes on
    pub mind_acted : (past : List Entry) (a : UnitName) (c : Call) (r : Reply) (f : Effect) (st : OwnState) (m : B × Last) → own rows s past a ≡ Some st →
        mind_of brain s bs past a ≡ Some m → mind_of brain s bs (Done a c r f ∷ past) a ≡ Some ((brain.next m.0 m.1).1, Replied r)
    mind_acted past a c r f st m here h =
        ap (option_map (mind_from brain (Done a c r f ∷ past) a)) (began_kept s brain bs (Done a c r f) past a st here)
        ∙ by (began_with brain rows s bs past a) h
      where
        by : (x : Option B) → option_map (mind_from brain past a) x ≡ Some m → option_map (mind_from brain (Done a c r f ∷ past) a) x ≡ Some ((brain.next m.0 m.1).1, Replied r)
        by None k = absurd (let z : ⊥ = cc in z)
        by (Some x) k =
            let is : mind_from brain past a x ≡ m = cc in
            ap (λ (rs : List Reply). Some (Rattle.df_rules.specs.Follows.state_after brain x rs, Rattle.df_rules.specs.Follows.last_of rs)) (replies_more a c r f past)
            ∙ ap (λ (p : B × Last). Some ((brain.next p.0 p.1).1, Replied r)) is

    -- an entry whose call the brain wants follows
    pub entry_follows : (past : List Entry) (a : UnitName) (c : Call) (r : Reply) (f : Effect) (st : OwnState) (m : B × Last) → own rows s past a ≡ Some st →
        mind_of brain s bs past a ≡ Some m →
        (((brain.next m.0 m.1).0 ≡ Calls c) ⊎ (((brain.next m.0 m.1).0 ≡ Wait) × (c ≡ Get) × (left st (deliveries rows s past a) ≢ []))) →
        EntryFollows brain rows s bs past (Done a c r f)
    entry_follows past a c r f st m here h want = by (began_with brain rows s bs past a) refl h
      where
        by : (x : Option B) → began_with brain rows s bs past a ≡ x → option_map (mind_from brain past a) x ≡ Some m → EntryFollows brain rows s bs past (Done a c r f)
        by None e k = absurd (let z : ⊥ = cc in z)
        by (Some x) e k =
            let is : m ≡ mind_from brain past a x = (let y : mind_from brain past a x ≡ m = cc in sym y) in (
              st,
              x,
              record {
                own = here;
                begun = e;
                call = subst (λ (p : B × Last). ((brain.next p.0 p.1).0 ≡ Calls c) ⊎ (((brain.next p.0 p.1).0 ≡ Wait) × (c ≡ Get) × (left st (deliveries rows s past a) ≢ []))) is want;
              },
            )
