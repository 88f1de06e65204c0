-- What the calls with which a unit opens do to what it may still do.
use Rattle.df_settling.proofs.Names.{◌≡◌, ◌≢◌, ℕ, ◌+◌, ◌-◌, ◌≤◌, ◌<◌, List, [], ◌∷◌, ◌++◌, Bool, true, false, refl, sym, ◌∙◌, ap, subst, cond, Option, Some, None, length, drop, arith, append-nil, append_assoc, ltb-true, eq-eqb, nat_le, option_to_list, slice_get, Clause, left, most_subs, OwnState, after, effect, is_instance, reply, subscribed, subscribes, Call, ChangeOutLabel, Subscribe, SubscribeManaged, Given, Effect, UnitName, Reply, Goes, Mind, calls, did, follow_of, is_release, is_subscription, opened_next, told, wanted_at, opening, parts_of, Heard, Kind, Stage}
use Rattle.df_priv.specs.Held.{holds}
use Rattle.df_priv.specs.Needed.{needed}
use Rattle.df_priv.specs.declared.need.Act.{Act}
use Rattle.df_priv.specs.declared.need.Half.{Half}
use Rattle.df_floor_units.specs.Floor.{opened as opened_stage}
use Rattle.df_floor_units.specs.declared.stage.Stage.TheVariants as stage
use Rattle.df_settling.proofs.Roles.{Role, opening_by, opening_is, role_of}
use Rattle.df_settling.proofs.Unit.{At, IsOpening, Later, Moves, Outcome, calls_from, drop_more, mind_of, stands_opened, subs_from, subs_of, to_come}
use Rattle.df_settling.proofs.Still.{still, stops_at}
use Rattle.df_settling.proofs.Wanted.{IsNow, wants_call}

one_less : (n place p : ℕ) → place < n → 1 + ((n - (place + 1)) + p) ≤ (n - place) + p
one_less n place p h = omega arith

some_less : (n place p : ℕ) → place < n → 1 ≤ (n - place) + p
some_less n place p h = omega arith

-- what a subscription is answered
subscribing_is : (u : UnitName) (st : OwnState) (a b : Bool) → is_instance u ≡ a → nat_le most_subs st.subs ≡ b →
    subscribed u st ≡ cond a Reply.NotInManaged (cond b Reply.TooManySubs (Reply.Sub st.subs))
subscribing_is u st a b e h =
    ap (λ (a : Bool). cond a Reply.NotInManaged (cond (nat_le most_subs st.subs) Reply.TooManySubs (Reply.Sub st.subs))) e
    ∙ ap (λ (b : Bool). cond a Reply.NotInManaged (cond b Reply.TooManySubs (Reply.Sub st.subs))) h

numbered : (st : OwnState) (filter : List Clause) → subscribes st (Subscribe filter) (Reply.Sub st.subs) ≡ Some (st.subs, filter)
numbered st filter = ap (λ (b : Bool). cond b (Some (st.subs, filter)) None) (eq-eqb st.subs st.subs refl)

module _ (w : Role → ℕ) (role : Role) (j : ℕ) (k : Kind) (x : Heard) (u : UnitName) (st : OwnState) (subs : List (ℕ × List Clause)) (ds : List Given)
    (plays : role_of j k ≡ role) (later : Later role subs) where
  -- what the call does at a stage
  abbrev Does : Stage → Call → Type 0
  Does g c = Outcome w role j k x u st subs ds g c

  -- it stands so
  abbrev Is : Stage → Type 0
  Is g = At role k x g u st subs

  -- a place of the opening at which a call is out
  record OpensAt (place : ℕ) (c : Call) : Type 0 where
    below : place < length (opening_by role)
    out : slice_get (opening k) place ≡ Some c
    opening : IsOpening role st subs (c ∷ drop (place + 1) (opening_by role))

  -- so the unit thinks one place further
  abbrev opened_further : ℕ → Mind
  opened_further place = mind_of k x (opened_stage k (told (parts_of k x)) (place + 1))

  -- what the answer to a call of the opening makes of the unit
  abbrev opened_by : ℕ → Bool → Mind
  opened_by place good = did (mind_of k x (stage.Opens place)) (opened_next (mind_of k x (stage.Opens place)) place good)

  further : (place : ℕ) (st' : OwnState) (subs' : List (ℕ × List Clause)) → place < length (opening_by role) →
      IsOpening role st' subs' (drop (place + 1) (opening_by role)) → st'.input ≡ st.input → st'.events ≡ st.events → st'.given ≡ st.given →
      Later role subs' →
      Moves w role j k x (stage.Opens place) (opened_further place) u st st' subs' ds Effect.Nothing
  further place st' subs' below o input events given l =
      still w role j k x u st subs ds plays later (stage.Opens place) (opened_further place) st' subs'
      (calls_from w role j k x u plays (place + 1) + to_come w role k x u) plays
      (stands_opened w role j k x u plays (place + 1) st' subs' o) input events given l
      (one_less (length (opening_by role)) place (to_come w role k x u) below)

  stops_opening : (place : ℕ) (c : Call) → OpensAt place c → Moves w role j k x (stage.Opens place) (mind_of k x stage.Stopped) u st st subs ds Effect.Nothing
  stops_opening place c o = stops_at w role j k x u st subs ds plays later (stage.Opens place) refl o.opening.closed
      (some_less (length (opening_by role)) place (to_come w role k x u) o.below)

  opens_out : (place : ℕ) (half : Half) (act : Act) (t : List ℕ) → OpensAt place (ChangeOutLabel half act t) →
      Does (stage.Opens place) (ChangeOutLabel half act t)
  opens_out place half act t o = go (holds st.held (needed act t)) refl
    where
      go : (b : Bool) → holds st.held (needed act t) ≡ b → Does (stage.Opens place) (ChangeOutLabel half act t)
      go true e = record {
        answer = Reply.Ok;
        does = Effect.Nothing;
        subscribed = subs;
        mind = opened_further place;
        replies = ap (λ (b : Bool). cond b Reply.Ok (Reply.Lacks (needed act t))) e;
        effects = refl;
        subscribing = append-nil subs;
        moved = ap (λ (c : Option Call). opened_by place (is_release c)) o.out;
        moves = further place (after u st (ChangeOutLabel half act t) Reply.Ok Effect.Nothing) subs o.below
            (record { closed = o.opening.closed; out = o.opening.out; made = o.opening.made; openers = o.opening.openers }) refl refl refl later;
      }
      go false e = record {
        answer = Reply.Lacks (needed act t);
        does = Effect.Nothing;
        subscribed = subs;
        mind = mind_of k x stage.Stopped;
        replies = ap (λ (b : Bool). cond b Reply.Ok (Reply.Lacks (needed act t))) e;
        effects = refl;
        subscribing = append-nil subs;
        moved = refl;
        moves = stops_opening place (ChangeOutLabel half act t) o;
      }

  -- a subscription that is refused stops the unit
  opens_refused : (place : ℕ) (c : Call) → OpensAt place c → (r : Reply) → reply u st (left st ds) c ≡ r → effect u st (left st ds) c ≡ Effect.Nothing →
      subscribes st c r ≡ None → after u st c r Effect.Nothing ≡ st →
      follow_of (mind_of k x (stage.Opens place)) (stage.Opens place) r ≡ Goes stage.Stopped → Does (stage.Opens place) c
  opens_refused place c o r replies effects none same stops = record {
    answer = r;
    does = Effect.Nothing;
    subscribed = subs;
    mind = mind_of k x stage.Stopped;
    replies = replies;
    effects = effects;
    subscribing = ap (λ (s : Option (ℕ × List Clause)). subs ++ option_to_list s) none ∙ append-nil subs;
    moved = ap (did (mind_of k x (stage.Opens place))) stops;
    moves = subst (λ (next : OwnState). Moves w role j k x (stage.Opens place) (mind_of k x stage.Stopped) u st next subs ds Effect.Nothing) (sym same)
        (stops_opening place c o);
  }

  -- the state with one more subscription
  abbrev one_more : OwnState
  one_more = record st { subs = st.subs + 1 }

  -- a subscription that is made
  opens_made : (place : ℕ) (c : Call) (subs' : List (ℕ × List Clause)) → OpensAt place c → Later role subs' → reply u st (left st ds) c ≡ Reply.Sub st.subs →
      effect u st (left st ds) c ≡ Effect.Nothing → subs ++ option_to_list (subscribes st c (Reply.Sub st.subs)) ≡ subs' →
      after u st c (Reply.Sub st.subs) Effect.Nothing ≡ one_more → is_subscription (Some c) ≡ true →
      IsOpening role one_more subs' (drop (place + 1) (opening_by role)) → Does (stage.Opens place) c
  opens_made place c subs' o l replies effects made same is next = record {
    answer = Reply.Sub st.subs;
    does = Effect.Nothing;
    subscribed = subs';
    mind = opened_further place;
    replies = replies;
    effects = effects;
    subscribing = made;
    moved = ap (λ (c : Option Call). opened_by place (is_subscription c)) o.out ∙ ap (opened_by place) is;
    moves = subst (λ (st' : OwnState). Moves w role j k x (stage.Opens place) (opened_further place) u st st' subs' ds Effect.Nothing) (sym same)
        (further place one_more subs' o.below next refl refl refl l);
  }

  opens_sub : (place : ℕ) (filter : List Clause) → OpensAt place (Subscribe filter) → Does (stage.Opens place) (Subscribe filter)
  opens_sub place filter o = go (is_instance u) refl (nat_le most_subs st.subs) refl
    where
      rest : List (ℕ × List Clause)
      rest = subs_from (st.subs + 1) (drop (place + 1) (opening_by role))

      all : (subs ++ (st.subs, filter) ∷ []) ++ subs_from (st.subs + 1) (drop (place + 1) (opening_by role)) ≡ subs_of role
      all = append_assoc subs ((st.subs, filter) ∷ []) (subs_from (st.subs + 1) (drop (place + 1) (opening_by role))) ∙ o.opening.made

      go : (a : Bool) → is_instance u ≡ a → (b : Bool) → nat_le most_subs st.subs ≡ b → Does (stage.Opens place) (Subscribe filter)
      go true e b h = opens_refused place (Subscribe filter) o Reply.NotInManaged (subscribing_is u st true b e h) refl refl refl refl
      go false e true h = opens_refused place (Subscribe filter) o Reply.TooManySubs (subscribing_is u st false true e h) refl refl refl refl
      go false e false h = opens_made place (Subscribe filter) (subs ++ (st.subs, filter) ∷ []) o (rest, all) (subscribing_is u st false false e h) refl
          (ap (λ (s : Option (ℕ × List Clause)). subs ++ option_to_list s) (numbered st filter)) refl refl
          (record { closed = o.opening.closed; out = o.opening.out; made = all; openers = o.opening.openers })

  opens_managed : (place : ℕ) (filter : List Clause) → OpensAt place (SubscribeManaged filter) → Does (stage.Opens place) (SubscribeManaged filter)
  opens_managed place filter o = go (is_instance u) refl (nat_le most_subs st.subs) refl
    where
      go : (a : Bool) → is_instance u ≡ a → (b : Bool) → nat_le most_subs st.subs ≡ b → Does (stage.Opens place) (SubscribeManaged filter)
      go true e b h = opens_refused place (SubscribeManaged filter) o Reply.NotInManaged (subscribing_is u st true b e h) refl refl refl refl
      go false e true h = opens_refused place (SubscribeManaged filter) o Reply.TooManySubs (subscribing_is u st false true e h) refl refl refl refl
      go false e false h = opens_made place (SubscribeManaged filter) subs o later (subscribing_is u st false false e h) refl (append-nil subs) refl refl
          (record { closed = o.opening.closed; out = o.opening.out; made = o.opening.made; openers = o.opening.openers.4 })

  opens : (place : ℕ) (c : Call) → OpensAt place c → Does (stage.Opens place) c
  opens place (ChangeOutLabel half act t) o = opens_out place half act t o
  opens place (Subscribe filter) o = opens_sub place filter o
  opens place (SubscribeManaged filter) o = opens_managed place filter o
  opens place _ o = absurd o.opening.openers

  pub opens_now : (place : ℕ) (c : Call) → Is (stage.Opens place) → IsNow k x (stage.Opens place) st ds c → Does (stage.Opens place) c
  opens_now place c h now =
      let m = drop_more (opening_by role) place h.0 in
      let out : slice_get (opening k) place ≡ Some m.0 = ap (λ (cs : List Call). slice_get cs place) (opening_is j k ∙ ap opening_by plays) ∙ m.1 in
      let o : OpensAt place m.0 = record {
        below = ltb-true place (length (opening_by role)) h.0;
        out = out;
        opening =
            subst (IsOpening role st subs) m.2 h.1;
      } in
      wants_call (wanted_at (mind_of k x (stage.Opens place)) (stage.Opens place)) m.0 c (left st ds ≢ []) (Does (stage.Opens place)) (ap calls out) now
      (opens place m.0 o)
