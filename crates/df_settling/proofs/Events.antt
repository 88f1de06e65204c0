-- What the calls that make an event do to what a unit may still do.
use Rattle.df_settling.proofs.Names.{◌≡◌, ◌≢◌, inr, ℕ, ◌+◌, ◌-◌, ◌*◌, ◌≤◌, ◌<◌, List, [], ◌∷◌, ◌++◌, Bool, true, false, true≢false, refl, sym, ◌∙◌, ap, cond, Option, Some, None, length, map, take, arith, append-nil, ltb-true, suc, suc-mul, add_comm, length-take-le, nat_le, nat_lt, length-map, map-append, Clause, Label, Draft, Part, left, new_part, raised, relabelled, changed_at, draft_of, handle_at, least_free, replaced, most_numbers, most_parts, OwnState, after, at_handle, effect, is_accepted, is_nil, published, reply, Call, AddPart, CreateEvent, Publish, Commit, Given, Effect, Handle, UnitName, Reply, Mind, adding, adds, told, wanted_at, parts_of, passed_heard, passed_kind, Heard, Kind, Stage}
use Rattle.std.proofs.lemmas.Bool.{lt-leb}
use Rattle.df_floor_units.specs.declared.stage.Stage.TheVariants as stage
use Rattle.df_settling.proofs.Roles.{Role, good_size, may_tell, role_of, role_passed, size_of, tells}
use Rattle.df_settling.proofs.Roles as roles
use Rattle.df_settling.proofs.Unit.{At, Later, Outcome, Stands, behind_it, drafted_part, drafts, drop_more, event_cost, event_from, event_of, first_free, good_parts, is_at, mind_of, not_full, now_open, now_set, published_part, published_parts, stands_adding, stands_told, the_draft, to_come}
use Rattle.df_settling.proofs.Still.{no_more, still, stops_at}
use Rattle.df_settling.proofs.Wanted.{IsNow, some_of, wants_call}

add_less : (n place w m : ℕ) → place < n → 1 + (1 + (n - (place + 1)) + w + m) ≤ 1 + (n - place) + w + m
add_less n place w m h = omega arith

-- one event, and those behind it
told_first : (t p c : ℕ) → t ≡ suc p → t * c ≡ c + p * c
told_first t p c e = ap (λ (n : ℕ). n * c) e ∙ suc-mul p c ∙ add_comm (p * c) c

-- what an added part makes of the draft
abbrev with_part : Label → Draft → Handle → Handle
with_part out d h = record h { drafted = h.drafted ++ new_part (raised out d.label) d.name d.value ∷ [] }

more_drafted : (u : UnitName) (n : ℕ) (out : Label) (done : List Draft) (d : Draft) →
    with_part out d (the_draft u n out done) ≡ the_draft u n out (done ++ d ∷ [])
more_drafted u n out done d = ap (λ (ps : List Part). draft_of (event_of u n) ps) (sym (map-append (drafted_part out) done (d ∷ [])))

size_few : (role : Role) → size_of role ≤ 4
size_few roles.Exchange = omega arith
size_few roles.Broker = omega arith
size_few roles.Regulator = omega arith
size_few (roles.Trader j) = omega arith
size_few (roles.Monitor j a b) = omega arith
size_few roles.Watcher = omega arith

relabelled_again : (out : Label) (ds : List Draft) → relabelled out (map (drafted_part out) ds) ≡ map (published_part out) ds
relabelled_again out [] = refl
relabelled_again out (d ∷ ds) = ap (λ (ps : List Part). published_part out d ∷ ps) (relabelled_again out ds)

not_nil : {A B : Type 0} (f : A → B) (xs : List A) → nat_lt 0 (length xs) ≡ true → is_nil (map f xs) ≡ false
not_nil f [] h = absurd (true≢false (sym h))
not_nil f (x ∷ xs) h = refl

module _ (w : Role → ℕ) (role : Role) (j : ℕ) (k : Kind) (x : Heard) (u : UnitName) (st : OwnState) (subs : List (ℕ × List Clause)) (ds : List Given)
    (plays : role_of j k ≡ role) (later : Later role subs) where
  -- what the call does at a stage
  abbrev Does : Stage → Call → Type 0
  Does g c = Outcome w role j k x u st subs ds g c

  -- it stands so
  abbrev Is : Stage → Type 0
  Is g = At role k x g u st subs

  -- the unit with a draft of its next event
  abbrev begun : OwnState
  begun = after u st CreateEvent (Reply.Handle 0) Effect.Nothing

  pub creates : Is stage.Creates → Does stage.Creates CreateEvent
  creates a = go (nat_le most_numbers st.events) refl
    where
      answer_is : (b : Bool) → nat_le most_numbers st.events ≡ b → reply u st (left st ds) CreateEvent ≡ cond b Reply.Exhausted (Reply.Handle 0)
      answer_is b e =
          ap (λ (f : Bool). cond f Reply.TooManyHandles (cond (nat_le most_numbers st.events) Reply.Exhausted (Reply.Handle (least_free st.handles))))
          (not_full st a.1)
          ∙ ap (λ (b : Bool). cond b Reply.Exhausted (Reply.Handle (least_free st.handles))) e
          ∙ ap (λ (n : ℕ). cond b Reply.Exhausted (Reply.Handle n)) (first_free st a.1)

      whole : to_come w role k x u ≡ event_cost w role + behind_it w role k x u
      whole = told_first (may_tell k x) (may_tell (passed_kind k) (passed_heard x)) (event_cost w role) (tells j k x a.0).less

      stands : Stands w role k x u (adding (parts_of k x) 0 0) begun subs (event_from w role j k x u plays 0) 1
      stands = stands_adding w role j k x u plays 0 0 begun subs a.0 (st.events, refl, (refl, now_open st (draft_of (event_of u st.events) []) a.1)) a.2

      go : (b : Bool) → nat_le most_numbers st.events ≡ b → Does stage.Creates CreateEvent
      go true e = record {
        answer = Reply.Exhausted;
        does = Effect.Nothing;
        subscribed = subs;
        mind = mind_of k x stage.Stopped;
        replies = answer_is true e;
        effects = refl;
        subscribing = append-nil subs;
        moved = refl;
        moves = stops_at w role j k x u st subs ds plays later stage.Creates refl a.1 (let e = whole in omega arith);
      }
      go false e = record {
        answer = Reply.Handle 0;
        does = Effect.Nothing;
        subscribed = subs;
        mind = mind_of k x (adding (parts_of k x) 0 0);
        replies = answer_is false e;
        effects = refl;
        subscribing = append-nil subs;
        moved = refl;
        moves = record {
          plays = plays;
          at = stands.at;
          input = refl;
          later = later;
          pays = let c = stands.cost in let e = whole in omega arith;
          free = λ n h. (let y = no_more (st.events + 1) n (drafts (adding (parts_of k x) 0 0)) 1 stands.draft h in omega arith, tt);
          fine = tt;
        };
      }

  -- the unit with one more part in the draft
  abbrev adding_to : ℕ → Draft → OwnState
  adding_to h d = after u st (AddPart h d.label d.name d.value) Reply.Ok Effect.Nothing

  adds_part : (h place : ℕ) (d : Draft) → Is (stage.Adds h place) → take place (parts_of k x) ++ d ∷ [] ≡ take (place + 1) (parts_of k x) →
      Does (stage.Adds h place) (AddPart h d.label d.name d.value)
  adds_part h place d a more = record {
    answer = Reply.Ok;
    does = Effect.Nothing;
    subscribed = subs;
    mind = mind_of k x (adding (parts_of k x) h (place + 1));
    replies = answer_is;
    effects = refl;
    subscribing = append-nil subs;
    moved = refl;
    moves = still w role j k x u st subs ds plays later (stage.Adds h place) (mind_of k x (adding (parts_of k x) h (place + 1)))
        (adding_to h d) subs (event_from w role j k x u plays (place + 1))
        plays
        (stands_adding w role j k x u plays h (place + 1) (adding_to h d) subs some (a.1.0, a.1.1, (a.1.2.0, handles)) a.2)
        refl refl refl later (add_less (size_of role) place (w role) (behind_it w role k x u) below);
  }
    where
      open_draft : Handle
      open_draft = the_draft u a.1.0 st.output (take place (parts_of k x))

      some : nat_lt 0 (length (parts_of k x)) ≡ true
      some = some_of (length (parts_of k x)) place a.0

      inside : place < length (parts_of k x)
      inside = ltb-true place (length (parts_of k x)) a.0

      size : length (parts_of k x) ≡ size_of role
      size = good_size role (parts_of k x) (good_parts w role j k x u plays (some_of (length (parts_of k x)) place a.0))

      below : place < size_of role
      below = let b = inside in let e = size in omega arith

      few : length (take place (parts_of k x)) < 64
      few =
          let t = inside in
          let b = length-take-le place (parts_of k x) (omega arith) in
          let e = size in
          let s = size_few role in
          omega arith

      not_many : nat_le most_parts (length (map (drafted_part st.output) (take place (parts_of k x)))) ≡ false
      not_many = ap (nat_le most_parts) (length-map (take place (parts_of k x)) (drafted_part st.output))
          ∙ lt-leb most_parts (length (take place (parts_of k x))) few

      answer_is : reply u st (left st ds) (AddPart h d.label d.name d.value) ≡ Reply.Ok
      answer_is =
          ap (λ (o : Option Handle). at_handle o (λ d. cond (nat_le most_parts (length d.drafted)) (Reply.TooManyParts (most_parts + 1)) Reply.Ok))
          (is_at h st open_draft a.1.2)
          ∙ ap (λ (b : Bool). cond b (Reply.TooManyParts (most_parts + 1)) Reply.Ok) not_many

      handles : changed_at st.handles h (with_part st.output d) ≡ Some (the_draft u a.1.0 st.output (take (place + 1) (parts_of k x))) ∷ []
      handles =
          ap (replaced st.handles h (with_part st.output d)) (is_at h st open_draft a.1.2)
          ∙ now_set h st open_draft (Some (with_part st.output d open_draft)) a.1.2
          ∙ ap (λ (y : Handle). Some y ∷ []) (more_drafted u a.1.0 st.output (take place (parts_of k x)) d)
          ∙ ap (λ (done : List Draft). Some (the_draft u a.1.0 st.output done) ∷ []) more

  -- the commit of an event of this number
  abbrev committing : ℕ → Commit
  committing n = record { event = event_of u n; edit = ([], published_parts role (parts_of k x)) }

  -- the unit once it published the event
  abbrev publishing : ℕ → ℕ → OwnState
  publishing h n = after u st (Publish h) Reply.Ok (Effect.Commit (committing n))

  -- what the unit then thinks
  abbrev having_passed : Mind
  having_passed = mind_of (passed_kind k) (passed_heard x) (told (parts_of (passed_kind k) (passed_heard x)))

  pub publishes : (h : ℕ) → Is (stage.Publishes h) → Does (stage.Publishes h) (Publish h)
  publishes h a = record {
    answer = Reply.Ok;
    does = Effect.Commit (committing a.1.0);
    subscribed = subs;
    mind = having_passed;
    replies = answer_is;
    effects = committed;
    subscribing = append-nil subs;
    moved = refl;
    moves = record {
      plays = role_passed j k ∙ plays;
      at = stands.at;
      input = refl;
      later = later;
      pays = let e = stands.cost in omega arith;
      free = λ n q.
          let y = no_more st.events n (drafts having_passed.stage) 0 stands.draft q in
          let e = a.1.1 in
          (omega arith, λ z. omega arith);
      fine = (parts_of k x, a.1.0, good_parts w role j k x u plays a.0, (let e = a.1.1 in omega arith), refl);
    };
  }
    where
      open_draft : Handle
      open_draft = the_draft u a.1.0 st.output (parts_of k x)

      answer_is : reply u st (left st ds) (Publish h) ≡ Reply.Ok
      answer_is =
          ap (λ (o : Option Handle). at_handle o (λ d. cond d.is_view Reply.NotDraft (cond (is_nil d.drafted) Reply.EmptyEvent Reply.Ok)))
          (is_at h st open_draft a.1.2)
          ∙ ap (λ (b : Bool). cond b Reply.EmptyEvent Reply.Ok) (not_nil (drafted_part st.output) (parts_of k x) a.0)

      parts : relabelled st.output (map (drafted_part st.output) (parts_of k x)) ≡ published_parts role (parts_of k x)
      parts = relabelled_again st.output (parts_of k x) ∙ ap (λ (out : Label). map (published_part out) (parts_of k x)) a.2

      committed : effect u st (left st ds) (Publish h) ≡ Effect.Commit (committing a.1.0)
      committed =
          ap (λ (r : Reply). cond (is_accepted r) (published st (handle_at st.handles h)) Effect.Nothing) answer_is
          ∙ ap (published st) (is_at h st open_draft a.1.2)
          ∙ ap (λ (ps : List Part). Effect.Commit (record { event = event_of u a.1.0; edit = ([], ps) })) parts

      stands : Stands w role having_passed.kind having_passed.heard u having_passed.stage (publishing h a.1.0) subs (behind_it w role k x u) 0
      stands = stands_told w role (passed_kind k) (passed_heard x) u (publishing h a.1.0) subs (inr (now_set h st open_draft None a.1.2)) a.2

  pub adds_now : (h place : ℕ) (c : Call) → Is (stage.Adds h place) → IsNow k x (stage.Adds h place) st ds c → Does (stage.Adds h place) c
  adds_now h place c a now =
      let m = drop_more (parts_of k x) place a.0 in
      wants_call (wanted_at (mind_of k x (stage.Adds h place)) (stage.Adds h place)) (AddPart h m.0.label m.0.name m.0.value) c (left st ds ≢ [])
      (Does (stage.Adds h place)) (ap (adds h) m.1) now
      (adds_part h place m.0 a m.3)
