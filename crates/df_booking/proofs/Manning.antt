-- The brains of a crew agree with its journal, before and after a turn.
use Rattle.std.proofs.Common.{◌≡◌, ◌⊎◌, inl, inr, ℕ, suc, ◌+◌, ◌-◌, ◌<◌, List, [], ◌∷◌, ◌++◌, Bool, true, false, refl, sym, ◌∙◌, ap, subst, cond, Option, Some, None, length, reverse, arith, length-append}
use Rattle.std.proofs.lemmas.List.{length-reverse}
use Rattle.std.specs.Option.{option_map}
use Rattle.df_brain.specs.Brain.{want_of}
use Rattle.df_brain.specs.declared.want.Want.{Want as Wish}
use Rattle.df_brain.specs.declared.want.Want.TheVariants as wish
use Rattle.df_booking.specs.Booked.{IsCurrent}
use Rattle.df_booking.specs.CrewState.{CrewState, mind_in, want_by, want_in}
use Rattle.df_booking.specs.Manned.{IsFollowed, IsManned, IsMind, seed_name}
use Rattle.df_booking.specs.Minds.{mind_from}
use Rattle.df_booking.specs.code.Renewal.{IsUnderWay, left_by, mind_after, mind_behind, shared_of}
use Rattle.df_booking.specs.code.Seeding.{IsSeed, IsSeeded, KeepsAtMost, back_of, behind, count_of, next_seed, seed_for, seed_of, seed_of_want, shared_by, shared_by_want}
use Rattle.df_booking.specs.Turns.{asked_by, is_local_want, turn_of, turned}
use Rattle.df_booking.specs.declared.booking.Rest.{Rest}
use Rattle.df_booking.specs.declared.booking.Rest.TheVariants as rest
use Rattle.df_booking.proofs.Acting.{Acts, acted_followed, acted_mind, acted_others, acted_unit, own_of}
use Rattle.df_booking.proofs.Brained.{fixed_counted, made_is, subscribed_is}
use Rattle.df_booking.proofs.Entries.{Fixes, before_new, fixed_kept, fixed_or, same_self, seed_kept, some_is}
use Rattle.df_booking.proofs.LocalRuns.{Reached, run_reached, run_turn}
use Rattle.df_filter.specs.declared.clause.Clause.{Clause}
use Rattle.df_kept.specs.Kept.{KeptState, kept_at}
use Rattle.df_local.specs.Locally.{with_own}
use Rattle.df_local.specs.code.LocalState.{LocalState}
use Rattle.df_local_run.specs.RunState.{RunState}
use Rattle.df_machine.specs.Booking as machine
use Rattle.df_machine.specs.Journal.{State, answer_in, appended, firsts, has_delivery_in, local_of}
use Rattle.df_rules.specs.Follows.{Brain, Calls, Last, Replied, Wait, Want, began_with, replies_of, root_began, wanted}
use Rattle.df_rules.specs.Legal.{answer, answer_of}
use Rattle.df_rules.specs.Deliveries.{deliveries}
use Rattle.df_rules.specs.Own.{fixed, own, own_plain}
use Rattle.df_rules.specs.Start.{rows}
use Rattle.df_start.specs.declared.start.RootStart.{RootStart}
use Rattle.df_turn.specs.Locally.{TurnState, most_local, wants_local}
use Rattle.df_turn.specs.code.Going.{IsAt, IsEnded, IsGoing, IsSettled, goes_on, now_of}
use Rattle.df_turn.specs.declared.going.Going.{Going}
use Rattle.df_turn.specs.declared.stage.Stage.{Stage}
use Rattle.df_turn.specs.declared.stage.Stage.TheVariants.{Answered, Told, Wants}
use Rattle.df_unit.specs.Name.{same}
use Rattle.df_unit.specs.OwnState.{Fixed, OwnState}
use Rattle.df_unit.specs.Rows.{after, subscribed}
use Rattle.df_unit.specs.declared.call.Call.{Call}
use Rattle.df_unit.specs.declared.call.Call.TheVariants.{Get, SubscribeManaged}
use Rattle.df_unit.specs.declared.entry.Effect.{Effect}
use Rattle.df_unit.specs.declared.entry.Entry.{Entry}
use Rattle.df_unit.specs.declared.entry.Entry.TheVariants.{Done}
use Rattle.df_unit.specs.declared.name.UnitName.{UnitName}
use Rattle.df_unit.specs.declared.name.UnitName.TheVariants.{Managed, Root}
use Rattle.df_unit.specs.declared.reply.Reply.{Reply}
use Rattle.df_unit.proofs.SameFacts.{same_name-exact}

fixed_on : (s : List OwnState) (newer past : List Entry) (o : List ℕ) (n : ℕ) (fx : Fixed) → fixed rows s past o n ≡ Some fx → fixed rows s (newer ++ past) o n ≡ Some fx
fixed_on s [] past o n fx h = h
fixed_on s (e ∷ newer) past o n fx h = fixed_kept s e (newer ++ past) o n fx (fixed_on s newer past o n fx h)

seed_named : (l : LocalState) (w : Wish) (name : UnitName) → seed_of_want l w ≡ Some name → (o : List ℕ) × (l.unit ≡ Root o) × (name ≡ seed_name o l.own.subs)
seed_named l wish.Wait name h = absurd (let z : ⊥ = cc in z)
seed_named l (wish.Call (SubscribeManaged filter)) name h = by l.unit refl h
  where
    by : (u : UnitName) → l.unit ≡ u → next_seed l u ≡ Some name → (o : List ℕ) × (l.unit ≡ Root o) × (name ≡ seed_name o l.own.subs)
    by (Root o) e k = (o, e, (let z : seed_name o l.own.subs ≡ name = cc in sym z))
    by (Managed o n t) e k = absurd (let z : ⊥ = cc in z)
seed_named l (wish.Call _) name h = absurd (let z : ⊥ = cc in z)

-- what is wanted behind a turn that has ended is no local call
not_local : {B : Type 0} (brain : Brain B) (m : B × Last) (g : Going B) → IsGoing brain m g → IsEnded g → (w : Wish) → g.stage ≡ Wants w → wants_local (want_of w) ≡ false
not_local brain m g going ended w e = by (wants_local (want_of w)) refl (subst (λ (s : Stage). IsAt brain (now_of brain m g) g.run.entries g.state s) e going.at).1
  where
    by : (b : Bool) → wants_local (want_of w) ≡ b → length g.run.entries < most_local → wants_local (want_of w) ≡ false
    by true k few = absurd (let full = ended.full (ap goes_on e ∙ k) in let z : ⊥ = omega arith in z)
    by false k few = k

module _ {B : Type 0} (brain : Brain B) (bs : List B) (start : List RootStart) (past : List Entry) (u : UnitName) (m : B × Last) (g : Going B)
    (going : IsGoing brain m g) (unit : local_of (start, past) u ≡ Some g.run.base) (mind : mind_in brain bs (start, past) u ≡ Some m) where
  abbrev core : State
  core = (start, past)

  abbrev mid : List Entry
  mid = reverse g.run.entries ++ past

  abbrev now : B × Last
  now = now_of brain m g

  reached : IsFollowed brain bs core → Reached brain bs start u past mid g.run.present now
  reached h = run_reached brain bs start u g.run.entries past g.run.base g.run.present m now going.run unit mind h

  -- the next number of a subscription isn't one that was made
  fresh_seed : IsFollowed brain bs core → (o : List ℕ) (n : ℕ) (fx : Fixed) → fixed rows (firsts start) past o n ≡ Some fx → seed_of g.run.present g.stage ≡ Some (seed_name o n) → ⊥
  fresh_seed h o n fx k s = by g.stage s
    where
      by : (x : Stage) → seed_of g.run.present x ≡ Some (seed_name o n) → ⊥
      by (Told l) s = let z : ⊥ = cc in z
      by Answered s = let z : ⊥ = cc in z
      by (Wants w) s =
          let named = seed_named g.run.present w (seed_name o n) s in
          let r = reached h in
          let counted = fixed_counted (firsts start) mid r.followed.legal o n fx (fixed_on (firsts start) (reverse g.run.entries) past o n fx k) in
          let owner : o ≡ named.0 = ap Rattle.df_unit.specs.Rows.path_of named.2 in
          let number : n ≡ g.run.present.own.subs = ap number_in named.2 in
          let is = own_of (start, mid) u g.run.present r.unit in
          let mine : own_plain rows (firsts start) mid named.0 ≡ Some g.run.present.own = subst (λ (v : UnitName). own rows (firsts start) mid v ≡ Some g.run.present.own) (sym is.1 ∙ named.1) is.0 in
          let st : own_plain rows (firsts start) mid named.0 ≡ Some counted.0 = subst (λ (p : List ℕ). own_plain rows (firsts start) mid p ≡ Some counted.0) owner counted.1 in
          let same_state : counted.0 ≡ g.run.present.own = (let z : Some counted.0 ≡ Some g.run.present.own = sym st ∙ mine in cc) in
          let subs = ap (λ (x : OwnState). x.subs) same_state in
          let few = counted.2 in omega arith
        where
          number_in : UnitName → ℕ
          number_in (Root p) = 0
          number_in (Managed p k t) = k

  -- with room for the unit's brain and for a subscription's the tables still agree
  pub manned_ready : (kept kept' : KeptState (B × Last)) (begun begun' : KeptState B) → KeepsAtMost u m kept kept' →
      ((k : UnitName) → (seed_of g.run.present g.stage ≡ Some k → ⊥) → kept_at k begun' ≡ kept_at k begun) → IsManned brain bs kept begun core → IsManned brain bs kept' begun' core
  manned_ready kept kept' begun begun' room seed h = record {
    followed = h.followed;
    minds = λ n. by n (room n);
    seeds = λ o n fx k. seed (seed_name o n) (fresh_seed h.followed o n fx k) ∙ h.seeds o n fx k;
    rooted = h.rooted;
  }
    where
      by : (n : UnitName) → (kept_at n kept' ≡ kept_at n kept) ⊎ ((same u n ≡ true) × (kept_at n kept' ≡ Some m)) → IsMind brain bs core n (kept_at n kept')
      by n (inl e) = subst (λ (o : Option (B × Last)). IsMind brain bs core n o) (sym e) (h.minds n)
      by n (inr e) = subst (λ (o : Option (B × Last)). IsMind brain bs core n o) (sym e.1) (subst (λ (v : UnitName). IsMind brain bs core v (Some m)) (same_name-exact u n e.0)
          (some_is (own rows (firsts start) past u) g.run.base.own (own_of core u g.run.base unit).0, mind))

  -- behind a turn without a shared call
  pub manned_alone : (kept kept' : KeptState (B × Last)) (begun : KeptState B) → ((n : UnitName) → kept_at n kept' ≡ cond (same u n) (Some now) (kept_at n kept)) →
      IsManned brain bs kept begun core → IsManned brain bs kept' begun (start, mid)
  manned_alone kept kept' begun room h =
      let r = reached h.followed in
      record {
        followed = r.followed;
        minds = λ n. subst (λ (o : Option (B × Last)). IsMind brain bs (start, mid) n o) (sym (room n)) (by r n (same u n) refl);
        seeds = λ o n fx k. (let old = r.records o n fx k in h.seeds o n fx old ∙ sym (r.seeds o n fx old));
        rooted = h.rooted;
      }
    where
      by : Reached brain bs start u past mid g.run.present now → (n : UnitName) (b : Bool) → same u n ≡ b → IsMind brain bs (start, mid) n (cond b (Some now) (kept_at n kept))
      by r n true e = subst (λ (v : UnitName). IsMind brain bs (start, mid) v (Some now)) (same_name-exact u n e)
          (some_is (own rows (firsts start) mid u) g.run.present.own (own_of (start, mid) u g.run.present r.unit).0, r.mind)
      by r n false e = r.others n (kept_at n kept) e (h.minds n)

  module _ (w : Wish) (next : (want_of w, g.state) ≡ brain.next now.0 now.1) (c : Call) (called : shared_by_want (has_delivery_in core u) w ≡ Some c) where
    abbrev answer_now : Reply × Effect
    answer_now = answer_in (start, mid) u c

    abbrev next_mind : B × Last
    next_mind = (g.state, Replied answer_now.0)

    wants : Reached brain bs start u past mid g.run.present now → (v : Wish) → w ≡ v → shared_by_want (has_delivery_in core u) v ≡ Some c →
        ((brain.next now.0 now.1).0 ≡ Calls c) ⊎ (((brain.next now.0 now.1).0 ≡ Wait) × (c ≡ Get) × (has_delivery_in (start, mid) u ≡ true))
    wants r (wish.Call k) e h = inl (sym (ap (λ (p : Want × B). p.0) next) ∙ ap want_of e ∙ (let z : k ≡ c = cc in ap Calls z))
    wants r wish.Wait e h = by (has_delivery_in core u) refl h
      where
        by : (b : Bool) → has_delivery_in core u ≡ b → cond b (Some Get) None ≡ Some c →
            ((brain.next now.0 now.1).0 ≡ Calls c) ⊎ (((brain.next now.0 now.1).0 ≡ Wait) × (c ≡ Get) × (has_delivery_in (start, mid) u ≡ true))
        by true d k = inr (sym (ap (λ (p : Want × B). p.0) next) ∙ ap want_of e, (let z : Get ≡ c = cc in sym z), r.due ∙ d)
        by false d k = absurd (let z : ⊥ = cc in z)

    acts : Reached brain bs start u past mid g.run.present now → Acts brain bs start mid u g.run.present now c answer_now.0 answer_now.1
    acts r = record { unit = r.unit; mind = r.mind; right = refl; wants = wants r w refl called }

    -- the brain of the instances of a subscription that is made is the one that was kept
    seed_made : Reached brain bs start u past mid g.run.present now → (begun : KeptState B) → ((name : UnitName) → seed_of_want g.run.present w ≡ Some name → kept_at name begun ≡ Some (brain.instance g.state g.run.present.own.subs)) →
        (o : List ℕ) (n : ℕ) (fx : Fixed) → Fixes (firsts start) mid u c answer_now.0 o n fx → kept_at (seed_name o n) begun ≡ began_with brain rows (firsts start) bs (Done u c answer_now.0 answer_now.1 ∷ mid) (seed_name o n)
    seed_made r begun seed o n fx new =
        let made = made_is new.st n c answer_now.0 fx new.made in
        let is = own_of (start, mid) u g.run.present r.unit in
        let owner : g.run.present.unit ≡ Root o = is.1 ∙ new.actor in
        let state : new.st ≡ g.run.present.own =
        (let z : Some new.st ≡ Some g.run.present.own = sym new.owner ∙ subst (λ (v : UnitName). own rows (firsts start) mid v ≡ Some g.run.present.own) new.actor is.0 in cc) in
        let right : answer rows (firsts start) mid (Root o) (SubscribeManaged made.0) ≡ answer_now = ap (λ (v : UnitName). answer rows (firsts start) mid v (SubscribeManaged made.0)) (sym new.actor) ∙ ap (answer rows (firsts start) mid u) (sym made.1) in
        let here : subscribed (Root o) new.st ≡ answer_now.0 = ap (λ (p : Reply × Effect). p.0) (ap (λ (x : Option OwnState). answer_of rows (Root o) x (deliveries rows (firsts start) mid (Root o)) (SubscribeManaged made.0)) (sym new.owner) ∙ right) in
        let number : n ≡ g.run.present.own.subs = subscribed_is o new.st n (here ∙ made.2) ∙ ap (λ (x : OwnState). x.subs) state in
        let want : seed_of_want g.run.present w ≡ Some (seed_name o n) = seed_wanted r w refl called made.0 made.1 o owner n number in
        let began = before_new (firsts start) (Done u c answer_now.0 answer_now.1) mid o n new.none in
        let wanted_now = seed_state r (Root o) new.actor in
        seed (seed_name o n) want ∙ ap (λ (k : ℕ). Some (brain.instance g.state k)) (sym number)
        ∙ sym (ap (λ (before : List Entry). option_map (λ x. brain.instance (wanted brain x (replies_of (Root o) before)).1 n) (root_began bs o)) began ∙ wanted_now o refl n)
      where
        seed_wanted : Reached brain bs start u past mid g.run.present now → (v : Wish) → w ≡ v → shared_by_want (has_delivery_in core u) v ≡ Some c → (filter : List Clause) → c ≡ SubscribeManaged filter →
            (o : List ℕ) → g.run.present.unit ≡ Root o → (n : ℕ) → n ≡ g.run.present.own.subs → seed_of_want g.run.present v ≡ Some (seed_name o n)
        seed_wanted r (wish.Call k) e h filter is o owner n number =
            let z : k ≡ c = cc in
            ap (seed_for g.run.present) (z ∙ is) ∙ ap (next_seed g.run.present) owner ∙ ap (λ (i : ℕ). Some (seed_name o i)) (sym number)
        seed_wanted r wish.Wait e h filter is o owner n number = by (has_delivery_in core u) h
          where
            by : (b : Bool) → cond b (Some Get) None ≡ Some c → None ≡ Some (seed_name o n)
            by true k = let z : Get ≡ c = cc in let y : ⊥ = (let x = z ∙ is in cc) in absurd y
            by false k = absurd (let z : ⊥ = cc in z)

        seed_state : Reached brain bs start u past mid g.run.present now → (v : UnitName) → u ≡ v → (o : List ℕ) → v ≡ Root o → (n : ℕ) →
            option_map (λ x. brain.instance (wanted brain x (replies_of (Root o) mid)).1 n) (root_began bs o) ≡ Some (brain.instance g.state n)
        seed_state r v e o k n = by (root_began bs o) (subst (λ (k : UnitName). mind_in brain bs (start, mid) k ≡ Some now) (e ∙ k) r.mind)
          where
            by : (x : Option B) → option_map (mind_from brain mid (Root o)) x ≡ Some now → option_map (λ x. brain.instance (wanted brain x (replies_of (Root o) mid)).1 n) x ≡ Some (brain.instance g.state n)
            by None h = absurd (let z : ⊥ = cc in z)
            by (Some x) h =
                let is : mind_from brain mid (Root o) x ≡ now = cc in
                ap (λ (p : B × Last). Some (brain.instance (brain.next p.0 p.1).1 n)) is ∙ ap (λ (p : Want × B). Some (brain.instance p.1 n)) (sym next)

    -- behind a turn with its shared call
    pub manned_shared : (kept kept' : KeptState (B × Last)) (begun : KeptState B) → ((n : UnitName) → kept_at n kept' ≡ cond (same u n) (Some next_mind) (kept_at n kept)) →
        ((name : UnitName) → seed_of_want g.run.present w ≡ Some name → kept_at name begun ≡ Some (brain.instance g.state g.run.present.own.subs)) →
        IsManned brain bs kept begun core → IsManned brain bs kept' begun (start, Done u c answer_now.0 answer_now.1 ∷ mid)
    manned_shared kept kept' begun room seed h =
        let r = reached h.followed in
        record {
          followed = acted_followed brain bs start mid u g.run.present now c answer_now.0 answer_now.1 (acts r) r.followed;
          minds = λ n. subst (λ (o : Option (B × Last)). IsMind brain bs (start, Done u c answer_now.0 answer_now.1 ∷ mid) n o) (sym (room n)) (by r n (same u n) refl);
          seeds = λ o n fx k. elim (fixed_or (firsts start) mid u c answer_now.0 answer_now.1 o n fx k) [
            | inl there ↦ (let old = r.records o n fx there in h.seeds o n fx old ∙ sym (r.seeds o n fx old) ∙ sym (seed_kept (firsts start) brain bs (Done u c answer_now.0 answer_now.1) mid o n [] fx there))
            | inr new ↦ seed_made r begun seed o n fx new
          ];
          rooted = h.rooted;
        }
      where
        by : Reached brain bs start u past mid g.run.present now → (n : UnitName) (b : Bool) → same u n ≡ b → IsMind brain bs (start, Done u c answer_now.0 answer_now.1 ∷ mid) n (cond b (Some next_mind) (kept_at n kept))
        by r n true e =
            let acted = acted_unit brain bs start mid u g.run.present now c answer_now.0 answer_now.1 (acts r) in
            let own_now = (own_of (start, Done u c answer_now.0 answer_now.1 ∷ mid) u (with_own g.run.present (after g.run.present.unit g.run.present.own c answer_now.0 answer_now.1)) acted).0 in
            let mind_now = acted_mind brain bs start mid u g.run.present now c answer_now.0 answer_now.1 (acts r)
            ∙ ap (λ (p : Want × B). Some (p.1, Replied answer_now.0)) (sym next) in
            subst (λ (v : UnitName). IsMind brain bs (start, Done u c answer_now.0 answer_now.1 ∷ mid) v (Some next_mind)) (same_name-exact u n e)
            (some_is (own rows (firsts start) (Done u c answer_now.0 answer_now.1 ∷ mid) u) (after g.run.present.unit g.run.present.own c answer_now.0 answer_now.1) own_now, mind_now)
        by r n false e = acted_others brain bs start mid u g.run.present now c answer_now.0 answer_now.1 (acts r) n (kept_at n kept) e (r.others n (kept_at n kept) e (h.minds n))

  spare : (n k : ℕ) → n < k → (d : ℕ) × (k ≡ n + suc d)
  spare n k h = (k - n - 1, omega arith)

  -- what is booked is the turn
  pub turn_booked : IsFollowed brain bs core → IsEnded g → turn_of brain bs most_local u core ≡ machine.booked (record g.run { base = record g.run.base { unit = u } }) (shared_by (has_delivery_in core u) g.stage) core
  turn_booked h ended = by g.stage refl
    where
      r : Reached brain bs start u past mid g.run.present now
      r = reached h

      run : RunState
      run = record g.run { base = record g.run.base { unit = u } }

      turn : (n k : ℕ) → n ≡ length g.run.entries + k → turn_of brain bs n u core ≡ turn_of brain bs k u (start, mid)
      turn = run_turn brain bs start u g.run.entries past g.run.base g.run.present m now going.run unit mind h

      want_now : want_in brain bs (start, mid) u ≡ Some (brain.next now.0 now.1).0
      want_now = ap (λ (o : Option OwnState). want_by brain o (mind_in brain bs (start, mid) u)) (own_of (start, mid) u g.run.present r.unit).0 ∙ ap (want_by brain (Some g.run.present.own)) r.mind

      asks : (w : Wish) → asked_by (start, mid) u (Some (want_of w)) ≡ machine.booked (record g.run { base = record g.run.base { unit = u } }) (shared_by_want (has_delivery_in core u) w) core
      asks (wish.Call k) = refl
      asks wish.Wait = ap (λ (b : Bool). cond b (appended u Get (start, mid)) (start, mid)) r.due ∙ due (has_delivery_in core u)
        where
          due : (b : Bool) → cond b (appended u Get (start, mid)) (start, mid) ≡ machine.booked (record g.run { base = record g.run.base { unit = u } }) (cond b (Some Get) None) core
          due true = refl
          due false = refl

      by : (x : Stage) → g.stage ≡ x → turn_of brain bs most_local u core ≡ machine.booked (record g.run { base = record g.run.base { unit = u } }) (shared_by (has_delivery_in core u) x) core
      by (Told l) e = turn most_local 0 (let z = ended.full (ap goes_on e) in omega arith)
      by Answered e = turn most_local 0 (let z = ended.full (ap goes_on e) in omega arith)
      by (Wants w) e =
          let at : ((want_of w, g.state) ≡ brain.next now.0 now.1) × (length g.run.entries < most_local) = subst (λ (x : Stage). IsAt brain now g.run.entries g.state x) e going.at in
          let d = spare (length g.run.entries) most_local at.1 in
          let want : want_in brain bs (start, mid) u ≡ Some (want_of w) = want_now ∙ ap (λ (p : Want × B). Some p.0) (sym at.0) in
          let shared : wants_local (want_of w) ≡ false = not_local brain m g going ended w e in
          turn most_local (suc d.0) d.1
          ∙ ap (λ (w : Option Want). cond (is_local_want w) (turn_of brain bs d.0 u (asked_by (start, mid) u w)) (asked_by (start, mid) u w)) want
          ∙ ap (λ (b : Bool). cond b (turn_of brain bs d.0 u (asked_by (start, mid) u (Some (want_of w)))) (asked_by (start, mid) u (Some (want_of w)))) shared
          ∙ asks w

-- a turn that is current is under way
pub under_way : {B : Type 0} (brain : Brain B) (crew : CrewState B) (t : TurnState B) → IsCurrent brain t crew → (m : B × Last) (g : Going B) → g.run.base ≡ t.unit → m ≡ (t.state, t.last) →
    IsGoing brain m g → IsUnderWay brain crew.brains m g crew.core
under_way brain crew t here m g base is going = record {
  going = going;
  unit = subst (λ (l : LocalState). local_of crew.core l.unit ≡ Some l) (sym base) here.unit;
  mind = subst (λ (l : LocalState). mind_in brain crew.brains crew.core l.unit ≡ Some m) (sym base) (here.mind ∙ ap (λ (p : _ × Last). Some p) (sym is));
}

-- what is booked of a turn that has ended is its unit's turn
pub turned_is : {B : Type 0} (brain : Brain B) (core : State) (bs : List B) (crew : CrewState B) → (let x : CrewState B = record { core = core; brains = bs } in x) ≡ crew → (m : B × Last) (g : Going B) →
    IsUnderWay brain bs m g core → IsFollowed brain bs core → IsEnded g → (k : State) → k ≡ machine.booked g.run (shared_of g core) core →
    (let x : CrewState B = record { core = k; brains = bs } in x) ≡ turned brain g.run.base.unit crew
turned_is brain core bs crew view m g under followed ended k is =
    ap (λ (c : State). let x : CrewState _ = record { core = c; brains = bs } in x)
    (is ∙ sym (turn_booked brain bs core.0 core.1 g.run.base.unit m g under.going under.unit under.mind followed ended))
    ∙ ap (turned brain g.run.base.unit) view

-- where this unit's brain is kept, nothing else changes
pub keeps_one : {B : Type 0} (u : UnitName) (m : B × Last) (old new : KeptState (B × Last)) → ((n : UnitName) → kept_at n new ≡ cond (same u n) (Some m) (kept_at n old)) → KeepsAtMost u m old new
keeps_one {B} u m old new h n = by (same u n) refl (h n)
  where
    by : (b : Bool) → same u n ≡ b → kept_at n new ≡ cond b (Some m) (kept_at n old) → (kept_at n new ≡ kept_at n old) ⊎ ((same u n ≡ true) × (kept_at n new ≡ Some m))
    by true e k = inr (e, k)
    by false e k = inl k

-- where nothing changes
pub keeps_none : {B : Type 0} (u : UnitName) (m : B × Last) (old new : KeptState (B × Last)) → new ≡ old → KeepsAtMost u m old new
keeps_none u m old new e n = inl (ap (kept_at n) e)

-- with room for a subscription's brain the tables still agree
pub manned_seeded : {B : Type 0} (brain : Brain B) (bs : List B) (core : State) (m : B × Last) (g : Going B) → IsUnderWay brain bs m g core → (kept : KeptState (B × Last)) (begun begun' : KeptState B) →
    IsSeeded brain g.run.present g.stage g.state begun begun' → IsManned brain bs kept begun core → IsManned brain bs kept begun' core
manned_seeded brain bs core m g under kept begun begun' seeded manned =
    manned_ready brain bs core.0 core.1 g.run.base.unit m g under.going under.unit under.mind kept kept begun begun' (keeps_none g.run.base.unit m kept kept refl) (λ k h. seeded.others k h) manned

-- what a turn leaves agrees with the journal
pub manned_booked : {B : Type 0} (brain : Brain B) (bs : List B) (core : State) (m : B × Last) (g : Going B) → IsUnderWay brain bs m g core → (kept kept' : KeptState (B × Last)) (begun : KeptState B) →
    ((n : UnitName) → kept_at n kept' ≡ cond (same g.run.base.unit n) (Some (mind_behind brain m g core)) (kept_at n kept)) → IsSeed brain g.run.present g.stage g.state begun →
    IsManned brain bs kept begun core → IsManned brain bs kept' begun (machine.booked g.run (shared_of g core) core)
manned_booked brain bs core m g under kept kept' begun room seed h = by g.stage refl (shared_of g core) refl room
  where
    by : (x : Stage) → g.stage ≡ x → (s : Option Call) → shared_of g core ≡ s →
        ((n : UnitName) → kept_at n kept' ≡ cond (same g.run.base.unit n) (Some (mind_after (now_of brain m g) g.state (machine.reply_booked g.run s core))) (kept_at n kept)) →
        IsManned brain bs kept' begun (machine.booked g.run s core)
    by x e None f now = manned_alone brain bs core.0 core.1 g.run.base.unit m g under.going under.unit under.mind kept kept' begun now h
    by (Told l) e (Some c) f now = absurd (let z : None ≡ Some c = sym (ap (shared_by (has_delivery_in core g.run.base.unit)) e) ∙ f in let y : ⊥ = cc in y)
    by Answered e (Some c) f now = absurd (let z : None ≡ Some c = sym (ap (shared_by (has_delivery_in core g.run.base.unit)) e) ∙ f in let y : ⊥ = cc in y)
    by (Wants w) e (Some c) f now =
        let at : ((want_of w, g.state) ≡ brain.next (now_of brain m g).0 (now_of brain m g).1) × (length g.run.entries < most_local) =
        subst (λ (x : Stage). IsAt brain (now_of brain m g) g.run.entries g.state x) e under.going.at in
        let called = sym (ap (shared_by (has_delivery_in core g.run.base.unit)) e) ∙ f in
        manned_shared brain bs core.0 core.1 g.run.base.unit m g under.going under.unit under.mind w at.0 c called kept kept' begun now
        (λ name k. seed name (ap (seed_of g.run.present) e ∙ k)) h

-- the brain behind a turn that makes all its calls
pub left_is : {B : Type 0} (brain : Brain B) (m : B × Last) (g : Going B) → IsGoing brain m g → IsEnded g → (core : State) (due : Bool) → has_delivery_in core g.run.base.unit ≡ due → (g.stage ≡ Wants wish.Wait → due ≡ true) →
    left_by g.state g.stage (machine.reply_booked g.run (shared_by due g.stage) core) ≡ mind_behind brain m g core
left_is brain m g going ended core due is made = by g.stage refl going.at ∙ ap (λ (b : Bool). mind_after (now_of brain m g) g.state (machine.reply_booked g.run (shared_by b g.stage) core)) (sym is)
  where
    replied : (s : Stage) (c : Call) (call : Option Call) → call ≡ Some c →
        left_by g.state s (machine.reply_booked g.run call core) ≡ mind_after (now_of brain m g) g.state (machine.reply_booked g.run call core)
    replied s c call e = subst (λ (o : Option Call). left_by g.state s (machine.reply_booked g.run o core) ≡ mind_after (now_of brain m g) g.state (machine.reply_booked g.run o core)) (sym e) refl

    by : (s : Stage) → g.stage ≡ s → IsAt brain (now_of brain m g) g.run.entries g.state s →
        left_by g.state g.stage (machine.reply_booked g.run (shared_by due g.stage) core) ≡ mind_after (now_of brain m g) g.state (machine.reply_booked g.run (shared_by due g.stage) core)
    by (Told l) e at = subst (λ (s : Stage). left_by g.state s (machine.reply_booked g.run (shared_by due s) core) ≡ mind_after (now_of brain m g) g.state (machine.reply_booked g.run (shared_by due s) core)) (sym e) (sym at)
    by Answered e at = absurd (subst (λ (s : Stage). IsSettled s) e ended.settled)
    by (Wants (wish.Call c)) e at = replied g.stage c (shared_by due g.stage) (ap (shared_by due) e)
    by (Wants wish.Wait) e at = replied g.stage Get (shared_by due g.stage) (ap (shared_by due) e ∙ ap (λ (b : Bool). cond b (Some Get) None) (made e))

-- the brain that is told the reply is the one behind the turn
pub behind_is : {B : Type 0} (x : B) (r : Rest) (shared : Option Call) (reply : Option Reply) → behind x r reply ≡ left_by x (back_of r shared) reply
behind_is x r shared (Some q) = refl
behind_is x (rest.Long l) shared None = refl
behind_is x rest.Called None None = refl
behind_is x rest.Called (Some c) None = refl
behind_is x rest.Waits shared None = refl

-- how much longer the journal is
pub longer : (run : RunState) (core : State) (shared : Option Call) (n : ℕ) → n ≡ length run.entries + count_of shared → length (machine.booked run shared core).1 ≡ n + length core.1
longer run core None n e = omega (arith, length-append (reverse run.entries) core.1, length-reverse run.entries)
longer run core (Some c) n e = omega (arith, length-append (reverse run.entries) core.1, length-reverse run.entries)

-- a subscription's brain is kept
pub seeded_is : {B : Type 0} (brain : Brain B) (l : LocalState) (s : Stage) (x : B) (name : UnitName) (y : B) → Some name ≡ seed_of l s → y ≡ brain.instance x l.own.subs →
    (old new : KeptState B) → ((n : UnitName) → kept_at n new ≡ cond (same name n) (Some y) (kept_at n old)) → IsSeeded brain l s x old new
seeded_is brain l s x name y is_name is_brain old new put = record {
  this = λ n h. (let z : name ≡ n = (let k : Some name ≡ Some n = is_name ∙ h in cc) in
      put n ∙ ap (λ (b : Bool). cond b (Some y) (kept_at n old)) (subst (λ (v : UnitName). same name v ≡ true) z (same_self name))
      ∙ ap (λ (v : _). Some v) is_brain);
  others = λ k h. put k ∙ go k (same name k) refl (λ i. h (sym is_name ∙ ap (λ (v : UnitName). Some v) i));
}
  where
    go : (k : UnitName) (b : Bool) → same name k ≡ b → (name ≡ k → ⊥) → cond b (Some y) (kept_at k old) ≡ kept_at k old
    go k true i h = absurd (h (same_name-exact name k i))
    go k false i h = refl
