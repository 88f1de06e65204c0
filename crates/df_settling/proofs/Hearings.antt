-- What gets, reads and drops do to what a unit may still do.
use Rattle.df_settling.proofs.Names.{◌≡◌, ◌≢◌, inr, ℕ, ◌+◌, ◌-◌, ◌*◌, ◌≤◌, ◌<◌, List, [], Bool, true, false, refl, ◌∙◌, ap, cond, Option, None, length, arith, append-nil, ltb-true, add-mul, Clause, left, shown, visible_named, handle_at, view_of, OwnState, after, at_handle, is_nil, reply, Call, DropEvent, Get, ReadPart, Given, Effect, Handle, UnitName, PartRead, Reply, Mind, did, follow_of, handed, reading, reads, told, wanted_at, acted_heard, acted_kind, heard_of, reads_of, parts_of, Heard, Kind, Stage}
use Rattle.df_floor_units.specs.declared.heard.Heard.TheVariants as heard
use Rattle.df_floor_units.specs.declared.stage.Stage.TheVariants as stage
use Rattle.df_settling.proofs.Roles.{Role, leads, leads_to, read_count, reads_are, resting, role_acted, role_of, to_tell}
use Rattle.df_settling.proofs.Unit.{At, HasOpen, IsClosed, IsOpen, Later, Moves, Outcome, Stands, drafts, drop_more, event_cost, is_at, led_to, mind_of, now_open, now_set, owed, price, priced, reads_from, stands_handed, stands_reading, stands_stopped, stands_told, to_come}
use Rattle.df_settling.proofs.Still.{no_more, still}
use Rattle.df_settling.proofs.Wanted.{IsFirst, IsNow, first_left, taken_effect, taken_reply, wants_call}

read_less : (n place m : ℕ) → place < n → 1 + (1 + (n - (place + 1)) + m) ≤ 1 + (n - place) + m
read_less n place m h = omega arith

-- what a delivery leads to, and what rests, is paid for by the delivery and what there is to tell
rests_pay : (t r l c : ℕ) → (l + r) * c ≤ (t + r) * c + l * c
rests_pay t r l c = let a = add-mul l r c in let b = add-mul t r c in omega arith

ok_at : (h : ℕ) (st : OwnState) (d : Handle) → IsOpen h st d → at_handle (handle_at st.handles h) (λ d. Reply.Ok) ≡ Reply.Ok
ok_at h st d o = ap (λ (o : Option Handle). at_handle o (λ d. Reply.Ok)) (is_at h st d o)

module _ (w : Role → ℕ) (role : Role) (j : ℕ) (k : Kind) (x : Heard) (u : UnitName) (st : OwnState) (subs : List (ℕ × List Clause)) (ds : List Given)
    (plays : role_of j k ≡ role) (later : Later role subs) where
  -- what the call does at a stage
  abbrev Does : Stage → Call → Type 0
  Does g c = Outcome w role j k x u st subs ds g c

  -- it stands so
  abbrev Is : Stage → Type 0
  Is g = At role k x g u st subs

  -- a get

  -- the unit with a view of the delivery
  abbrev viewing : Given → OwnState
  viewing d = after u st Get (Reply.Event 0 d.sub) (Effect.Given d)

  -- a delivery pays for all that follows it
  taking : (g : Stage) (m : Mind) (d : Given) (most : ℕ) → role_of j m.kind ≡ role → Stands w role m.kind m.heard u m.stage (viewing d) subs most (drafts g) →
      IsFirst st ds d → 1 + most ≤ owed w role k x g + price w role d.sub → IsClosed st →
      did (mind_of k x g) (follow_of (mind_of k x g) g (Reply.Event 0 d.sub)) ≡ m → Does g Get
  taking g m d most is s e less c moved = record {
    answer = Reply.Event 0 d.sub;
    does = Effect.Given d;
    subscribed = subs;
    mind = m;
    replies = taken_reply u st ds d c e;
    effects = taken_effect u st ds d c e;
    subscribing = append-nil subs;
    moved = moved;
    moves = record {
      plays = is;
      at = s.at;
      input = refl;
      later = later;
      pays = let a = s.cost in let p = ap (priced w role) e in omega arith;
      free = λ n h. (no_more st.events n (drafts m.stage) (drafts g) s.draft h, tt);
      fine = tt;
    };
  }

  now_viewing : (d : Given) → IsClosed st → HasOpen 0 (viewing d)
  now_viewing d c = (view_of d.event d.parts, (refl, now_open st (view_of d.event d.parts) c))

  pub rests : Is stage.Rests → left st ds ≢ [] → Does stage.Rests Get
  rests h some =
      let i = first_left st ds some in
      let d = i.0 in
      let p = rests_pay (to_tell k x) (resting k) (leads_to role d.sub) (event_cost w role) in
      taking stage.Rests (mind_of k heard.Nothing (handed k 0 d.sub)) d (1 + read_count role + led_to w role k x u d.sub) plays
      (stands_handed w role j k heard.Nothing u plays 0 d.sub (viewing d) subs (now_viewing d h.0) h.1) i.1 (omega arith) h.0 refl

  pub stops : Is stage.Stopped → left st ds ≢ [] → Does stage.Stopped Get
  stops h some =
      let i = first_left st ds some in
      taking stage.Stopped (mind_of k x (stage.StoppedDrops 0)) i.0 1 plays
      (record { at = now_viewing i.0 h; cost = omega arith; draft = refl }) i.1 (omega arith) h refl

  -- reads and drops

  -- after a read of these parts
  abbrev having_heard : ℕ → ℕ → ℕ → List PartRead → Mind
  having_heard h sub place ps = mind_of k (heard_of k sub place x ps) (reading k h sub (place + 1))

  heard_as : (h sub place : ℕ) → Is (stage.Reads h sub place) → (st' : OwnState) (ps : List PartRead) → st'.handles ≡ st.handles → st'.output ≡ st.output →
      st'.input ≡ st.input → st'.events ≡ st.events → st'.given ≡ st.given →
      Moves w role j k x (stage.Reads h sub place) (having_heard h sub place ps) u st st' subs ds Effect.Nothing
  heard_as h sub place a st' ps handles output input events given =
      still w role j k x u st subs ds plays later (stage.Reads h sub place) (having_heard h sub place ps) st' subs
      (1 + reads_from w role j k x u plays (place + 1) + led_to w role k x u sub) plays
      (stands_reading w role j k (heard_of k sub place x ps) u plays h sub (place + 1) st' subs (a.1.0, (a.1.1.0, handles ∙ a.1.1.1)) (output ∙ a.2)
      (leads j k sub place x ps some))
      input events given later (read_less (read_count role) place (led_to w role k x u sub) below)
    where
      inside : place < length (reads_of k sub)
      inside = ltb-true place (length (reads_of k sub)) a.0

      below : place < read_count role
      below = let b = inside in let e = reads_are j k sub ∙ ap read_count plays in omega arith

      some : 0 < length (reads_of k sub)
      some = let b = inside in omega arith

  reads_name : (h sub place : ℕ) (name : List ℕ) → Is (stage.Reads h sub place) → Does (stage.Reads h sub place) (ReadPart h name)
  reads_name h sub place name a = go (is_nil (visible_named st.input name a.1.0)) refl
    where
      found : List PartRead
      found = shown (visible_named st.input name a.1.0)

      answer_is : (b : Bool) → is_nil (visible_named st.input name a.1.0) ≡ b →
          reply u st (left st ds) (ReadPart h name) ≡ cond b Reply.NoSuchPart (Reply.Parts (shown (visible_named st.input name a.1.0)))
      answer_is b e =
          ap (λ (o : Option Handle). at_handle o (λ d. cond (is_nil (visible_named st.input name d)) Reply.NoSuchPart
          (Reply.Parts (shown (visible_named st.input name d))))) (is_at h st a.1.0 a.1.1)
          ∙ ap (λ (b : Bool). cond b Reply.NoSuchPart (Reply.Parts (shown (visible_named st.input name a.1.0)))) e

      go : (b : Bool) → is_nil (visible_named st.input name a.1.0) ≡ b → Does (stage.Reads h sub place) (ReadPart h name)
      go true e = record {
        answer = Reply.NoSuchPart;
        does = Effect.Nothing;
        subscribed = subs;
        mind = having_heard h sub place [];
        replies = answer_is true e;
        effects = refl;
        subscribing = append-nil subs;
        moved = refl;
        moves = heard_as h sub place a st [] refl refl refl refl refl;
      }
      go false e = record {
        answer = Reply.Parts found;
        does = Effect.Nothing;
        subscribed = subs;
        mind = having_heard h sub place found;
        replies = answer_is false e;
        effects = refl;
        subscribing = append-nil subs;
        moved = refl;
        moves = heard_as h sub place a (after u st (ReadPart h name) (Reply.Parts found) Effect.Nothing) found refl refl refl refl refl;
      }

  -- the unit without the handle
  abbrev dropping : ℕ → OwnState
  dropping h = after u st (DropEvent h) Reply.Ok Effect.Nothing

  -- what the unit thinks once the event is dropped
  abbrev having_acted : Mind
  having_acted = mind_of (acted_kind k x) (acted_heard k x) (told (parts_of (acted_kind k x) (acted_heard k x)))

  pub drops : (h : ℕ) → Is (stage.Drops h) → Does (stage.Drops h) (DropEvent h)
  drops h a = record {
    answer = Reply.Ok;
    does = Effect.Nothing;
    subscribed = subs;
    mind = having_acted;
    replies = ok_at h st a.0.0 a.0.1;
    effects = refl;
    subscribing = append-nil subs;
    moved = refl;
    moves = still w role j k x u st subs ds plays later (stage.Drops h) having_acted (dropping h) subs
        (to_come w role (acted_kind k x) (acted_heard k x) u) (role_acted j k x ∙ plays)
        (stands_told w role (acted_kind k x) (acted_heard k x) u (dropping h) subs (inr (now_set h st a.0.0 None a.0.1)) a.1)
        refl refl refl later (omega arith);
  }

  pub drops_stopped : (h : ℕ) → Is (stage.StoppedDrops h) → Does (stage.StoppedDrops h) (DropEvent h)
  drops_stopped h a = record {
    answer = Reply.Ok;
    does = Effect.Nothing;
    subscribed = subs;
    mind = mind_of k x stage.Stopped;
    replies = ok_at h st a.0 a.1;
    effects = refl;
    subscribing = append-nil subs;
    moved = refl;
    moves = still w role j k x u st subs ds plays later (stage.StoppedDrops h) (mind_of k x stage.Stopped) (dropping h) subs 0 plays
        (stands_stopped w role k x u (dropping h) subs (inr (now_set h st a.0 None a.1))) refl refl refl later (omega arith);
  }

  pub reads_now : (h sub place : ℕ) (c : Call) → Is (stage.Reads h sub place) → IsNow k x (stage.Reads h sub place) st ds c → Does (stage.Reads h sub place) c
  reads_now h sub place c a now =
      let m = drop_more (reads_of k sub) place a.0 in
      wants_call (wanted_at (mind_of k x (stage.Reads h sub place)) (stage.Reads h sub place)) (ReadPart h m.0) c (left st ds ≢ [])
      (Does (stage.Reads h sub place)) (ap (reads h) m.1) now
      (reads_name h sub place m.0 a)
