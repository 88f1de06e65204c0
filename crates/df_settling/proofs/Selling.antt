-- What each entry of the broker does to what it may have done: 3 entries for each delivery, and 6 for each trade.
use Rattle.df_settling.proofs.Names.{◌≡◌, ◌≢◌, ℕ, zero, suc, ◌+◌, ◌-◌, ◌*◌, ◌≤◌, List, [], ◌∷◌, ◌++◌, Bool, true, false, true≢false, refl, sym, ◌∙◌, ap, subst, cond, Option, Some, None, length, append-nil, arith, codes, ltb-true, pos, nat_lt, submitted, Clause, Label, broker_tag, secret, offer_in, Offer, Part, given_in, left, shown, visible_named, handle_at, view_of, OwnState, after, at_handle, effect, is_accepted, is_nil, published, reply, Call, AddPart, CreateEvent, DropEvent, Get, Publish, ReadPart, Subscribe, Given, Effect, Handle, UnitName, Reply, order_of, submitted_to, takes, Mind, adding, adds, did, follow_of, told, wanted_at, acted_heard, acted_kind, first_of, heard_offer, present, release_of, broker_parts, parts_of, passed_heard, Heard, Kind, Stage, if_taken, offer_shown}
use Rattle.df_rules.specs.Follows as follows
use Rattle.df_floor_units.specs.Trading.{counted}
use Rattle.df_floor_units.specs.declared.broker.Broker.{Broker as Books}
use Rattle.df_floor_units.specs.declared.heard.Heard.TheVariants as heard
use Rattle.df_floor_units.specs.declared.kind.Kind.TheVariants as kind
use Rattle.df_floor_units.specs.declared.stage.Stage.TheVariants as stage
use Rattle.df_settling.proofs.Orders.{most, most_grows, most_more, rests, rests_more}
use Rattle.df_settling.proofs.Roles.{Broker, broker_tells, good_size, tells}
use Rattle.df_settling.proofs.Unit.{At, IsClosed, IsOpen, drop_more, is_at, mind_of, now_open}
use Rattle.df_settling.proofs.Wanted.{IsNow, first_left, some_of, taken_effect, taken_reply, wants_call, wants_get}

-- the broker's book is that of the orders that it took of these deliveries
pub record Booked (new b : Books) (ds : List Given) : Type 0 where
  pub traders : b.traders ≡ new.traders
  pub book : b.book ≡ rests new ds

-- the last delivery is still to be done, which takes so many entries before trades are told
pub record Holds (new b : Books) (ds : List Given) (n more : ℕ) : Type 0 where
  pub before : List Given
  pub last : Given
  pub all : before ++ last ∷ [] ≡ ds
  pub count : n + more ≤ 3 + most new before
  pub booked : Booked new b before

-- what stands of a broker with n entries at each stage
abbrev pub Sold : Books → Books → Heard → Stage → OwnState → List Given → ℕ → Type 0
Sold new b x stage.Fresh st ds n = ⊥
Sold new b x (stage.Opens zero) st ds n = (n ≡ 0) × (x ≡ heard.Nothing) × Booked new b ds
Sold new b x (stage.Opens (suc zero)) st ds n = (n ≡ 1) × (x ≡ heard.Nothing) × Booked new b ds
Sold new b x (stage.Opens (suc (suc place))) st ds n = ⊥
Sold new b x stage.Rests st ds n = (n ≤ most new ds) × Booked new b ds
Sold new b x (stage.Reads h sub zero) st ds n = (k : Holds new b ds n 2) × IsOpen h st (view_of k.last.event k.last.parts)
Sold new b x (stage.Reads h sub (suc place)) st ds n = ⊥
Sold new b x (stage.Drops h) st ds n = (k : Holds new b ds n 1) × (x ≡ heard_offer (offer_shown k.last))
Sold new b x stage.Creates st ds n = (n + 6 * broker_tells x ≤ most new ds) × Booked new b ds
Sold new b x (stage.Adds h place) st ds n = (n + 1 + (4 - place) + 6 * broker_tells (passed_heard x) ≤ most new ds) × Booked new b ds
Sold new b x (stage.Publishes h) st ds n = (n + 1 + 6 * broker_tells (passed_heard x) ≤ most new ds) × Booked new b ds
Sold new b x stage.Stopped st ds n = n ≤ most new ds
Sold new b x (stage.StoppedDrops h) st ds n = n + 1 ≤ most new ds

-- what stands of a unit that is a broker
abbrev pub Sells : Books → Kind → Heard → Stage → OwnState → List Given → ℕ → Type 0
Sells new (kind.Broker b) x g st ds n = Sold new b x g st ds n
Sells new _ x g st ds n = ⊥

-- a broker that thinks m
abbrev pub SellsAs : Books → Mind → OwnState → List Given → ℕ → Type 0
SellsAs new m st ds n = Sells new m.kind m.heard m.stage st ds n

held_most : (new b : Books) (ds : List Given) (n more : ℕ) → 1 ≤ more → Holds new b ds n more → suc n ≤ most new ds
held_most new b ds n more some k =
    let g = most_grows new k.before k.last in
    let c = k.count in
    subst (λ (ds : List Given). suc n ≤ most new ds) k.all (omega arith)

-- it has as many entries at most
sold_most : (new b : Books) (x : Heard) (g : Stage) (st : OwnState) (ds : List Given) (n : ℕ) → Sold new b x g st ds n → n ≤ most new ds
sold_most new b x stage.Fresh st ds n h = absurd h
sold_most new b x (stage.Opens zero) st ds n h = let e = h.0 in omega arith
sold_most new b x (stage.Opens (suc zero)) st ds n h = let e = h.0 in omega arith
sold_most new b x (stage.Opens (suc (suc place))) st ds n h = absurd h
sold_most new b x stage.Rests st ds n h = h.0
sold_most new b x (stage.Reads i sub zero) st ds n h = let k = held_most new b ds n 2 (omega arith) h.0 in omega arith
sold_most new b x (stage.Reads i sub (suc place)) st ds n h = absurd h
sold_most new b x (stage.Drops i) st ds n h = let k = held_most new b ds n 1 (omega arith) h.0 in omega arith
sold_most new b x stage.Creates st ds n h = let k = h.0 in omega arith
sold_most new b x (stage.Adds i place) st ds n h = let k = h.0 in omega arith
sold_most new b x (stage.Publishes i) st ds n h = let k = h.0 in omega arith
sold_most new b x stage.Stopped st ds n h = h
sold_most new b x (stage.StoppedDrops i) st ds n h = omega arith

pub sells_most : (new : Books) (k : Kind) (x : Heard) (g : Stage) (st : OwnState) (ds : List Given) (n : ℕ) → Sells new k x g st ds n → n ≤ most new ds
sells_most new (kind.Broker b) x g st ds n h = sold_most new b x g st ds n h
sells_most new _ x g st ds n h = absurd h

-- before the next trade is told, or at rest
told_sold : (new b : Books) (x : Heard) (st : OwnState) (ds : List Given) (n : ℕ) → n + 6 * broker_tells x ≤ most new ds → Booked new b ds →
    Sold new b x (told (parts_of (kind.Broker b) x)) st ds n
told_sold new b x st ds n h k = go (nat_lt 0 (length (parts_of (kind.Broker b) x)))
  where
    go : (c : Bool) → Sold new b x (cond c stage.Creates stage.Rests) st ds n
    go true = (h, k)
    go false = (omega arith, k)

-- an order is done: what it trades is to be told

-- brokers of as many traders take the same orders
takes_alike : (b new : Books) (o : Offer) → b.traders ≡ new.traders → takes b o ≡ takes new o
takes_alike b new o e = ap (λ (n : ℕ). takes (record { book = []; traders = n; next_trade = pos 0 }) o) e

acted_sold : (new b : Books) (st : OwnState) (before : List Given) (d : Given) (n : ℕ) → n ≤ 3 + most new before → Booked new b before →
    (o : Option Offer) → offer_shown d ≡ o →
    Sells new (acted_kind (kind.Broker b) (heard_offer o)) (acted_heard (kind.Broker b) (heard_offer o))
    (told (parts_of (acted_kind (kind.Broker b) (heard_offer o)) (acted_heard (kind.Broker b) (heard_offer o)))) st (before ++ d ∷ []) n
acted_sold new b st before d n h k None e = (
  (let m = most_grows new before d in omega arith),
  record { traders = k.traders; book = k.book ∙ sym (rests_more new before d [] (ap (if_taken new) e)) },
)
acted_sold new b st before d n h k (Some o) e = go (takes b o) refl
  where
    same : (t : Bool) → takes b o ≡ t → if_taken new (offer_shown d) ≡ cond t (order_of o ∷ []) []
    same t f = ap (if_taken new) e ∙ ap (λ (t : Bool). cond t (order_of o ∷ []) []) (sym (takes_alike b new o k.traders) ∙ f)

    go : (t : Bool) → takes b o ≡ t →
        Sold new (cond t (record b { book = (submitted_to b o).resting }) b) (cond t (heard.Trades (submitted_to b o).trades 0) heard.Nothing)
        (told (broker_parts (cond t (record b { book = (submitted_to b o).resting }) b) (cond t (heard.Trades (submitted_to b o).trades 0) heard.Nothing)))
        st (before ++ d ∷ []) n
    go true f =
        let m = most_more new before d (order_of o ∷ []) (same true f) in
        let trades = ap (λ (book : List _). length (submitted (order_of o) book).trades) k.book in
        told_sold new (record b { book = (submitted_to b o).resting }) (heard.Trades (submitted_to b o).trades 0) st (before ++ d ∷ []) n
        (omega arith)
        (record {
          traders = k.traders;
          book =
              ap (λ (book : List _). (submitted (order_of o) book).resting) k.book ∙ sym (rests_more new before d (order_of o ∷ []) (same true f));
        })
    go false f = (
      (let m = most_grows new before d in omega arith),
      record { traders = k.traders; book = k.book ∙ sym (rests_more new before d [] (same false f)) },
    )

-- what a read shows

none_shown : (ps : List Part) → is_nil ps ≡ true → first_of offer_in (shown ps) ≡ None
none_shown [] e = refl
none_shown (p ∷ ps) e = absurd (true≢false (sym e))

-- a publish gives nothing
publishing_gives : (u : UnitName) (st : OwnState) (ds : List Given) (h : ℕ) → given_in (effect u st ds (Publish h)) ≡ []
publishing_gives u st ds h = go (is_accepted (reply u st ds (Publish h))) (handle_at st.handles h)
  where
    go : (b : Bool) (o : Option Handle) → given_in (cond b (published st o) Effect.Nothing) ≡ []
    go true None = refl
    go true (Some d) = refl
    go false o = refl

module _ (new b : Books) (x : Heard) (u : UnitName) (st : OwnState) (all ds : List Given) (n : ℕ) where
  abbrev mind : Stage → Mind
  mind g = mind_of (kind.Broker b) x g

  -- so the broker thinks after one more entry
  abbrev Thinks : Mind → OwnState → List Given → Type 0
  Thinks m st' ds' = SellsAs new m st' ds' (suc n)

  -- what an entry of a call does at a stage, by its answer
  abbrev Behind : Stage → Call → Reply → Effect → Type 0
  Behind g c r f = Thinks (did (mind g) (follow_of (mind g) g r)) (after u st c r f) (ds ++ given_in f)

  abbrev Does : Stage → Call → Type 0
  Does g c = Behind g c (reply u st (left st all) c) (effect u st (left st all) c)

  -- a call that gives nothing, whatever it is answered
  gives_none : (g : Stage) (c : Call) → given_in (effect u st (left st all) c) ≡ [] →
      ((st' : OwnState) (r : Reply) → Thinks (did (mind g) (follow_of (mind g) g r)) st' ds) → Does g c
  gives_none g c e h = subst (λ (ds' : List Given). Thinks (did (mind g) (follow_of (mind g) g (reply u st (left st all) c)))
      (after u st c (reply u st (left st all) c) (effect u st (left st all) c)) ds')
      (sym (append-nil ds) ∙ ap (λ (more : List Given). ds ++ more) (sym e))
      (h (after u st c (reply u st (left st all) c) (effect u st (left st all) c)) (reply u st (left st all) c))

  -- the opening

  released : n ≡ 0 → x ≡ heard.Nothing → Booked new b ds → (st' : OwnState) (r : Reply) →
      Thinks (did (mind (stage.Opens 0)) (follow_of (mind (stage.Opens 0)) (stage.Opens 0) r)) st' ds
  released e none k st' Reply.Ok = (omega arith, none, k)
  released e none k st' (Reply.Sub i) = omega arith
  released e none k st' _ = omega arith

  asked : n ≡ 1 → x ≡ heard.Nothing → Booked new b ds → (st' : OwnState) (r : Reply) →
      Thinks (did (mind (stage.Opens 1)) (follow_of (mind (stage.Opens 1)) (stage.Opens 1) r)) st' ds
  asked e none k st' Reply.Ok = omega arith
  asked e none k st' (Reply.Sub i) = told_sold new b x st' ds (suc n) (let t = ap broker_tells none in omega arith) k
  asked e none k st' _ = omega arith

  -- a get

  rested : IsClosed st → n ≤ most new ds → Booked new b ds → left st all ≢ [] → Does stage.Rests Get
  rested c h k some =
      let i = first_left st all some in
      let d = i.0 in
      let er = taken_reply u st all d c i.1 in
      let ef = taken_effect u st all d c i.1 in
      let view = now_open st (view_of d.event d.parts) c in
      let holds : Holds new b (ds ++ d ∷ []) (suc n) 2 = record { before = ds; last = d; all = refl; count = omega arith; booked = k } in
      let behind : Behind stage.Rests Get (Reply.Event 0 d.sub) (Effect.Given d) = (holds, (refl, view)) in
      subst (λ (r : Reply). Behind stage.Rests Get r (effect u st (left st all) Get)) (sym er)
      (subst (λ (f : Effect). Behind stage.Rests Get (Reply.Event 0 d.sub) f) (sym ef) behind)

  stopped : IsClosed st → n ≤ most new ds → left st all ≢ [] → Does stage.Stopped Get
  stopped c h some =
      let i = first_left st all some in
      let d = i.0 in
      let er = taken_reply u st all d c i.1 in
      let ef = taken_effect u st all d c i.1 in
      let behind : Behind stage.Stopped Get (Reply.Event 0 d.sub) (Effect.Given d) = (let m = most_grows new ds d in omega arith) in
      subst (λ (r : Reply). Behind stage.Stopped Get r (effect u st (left st all) Get)) (sym er)
      (subst (λ (f : Effect). Behind stage.Stopped Get (Reply.Event 0 d.sub) f) (sym ef) behind)

  -- a read and a drop

  heard_now : (h sub : ℕ) (k : Holds new b ds n 2) → IsOpen h st (view_of k.last.event k.last.parts) → st.input ≡ secret broker_tag →
      Does (stage.Reads h sub 0) (ReadPart h (codes "order"))
  heard_now h sub k view input = go (is_nil (visible_named st.input (codes "order") (view_of k.last.event k.last.parts))) refl
    where
      same : first_of offer_in (shown (visible_named st.input (codes "order") (view_of k.last.event k.last.parts))) ≡ offer_shown k.last
      same = ap (λ (l : Label). first_of offer_in (shown (visible_named l (codes "order") (view_of k.last.event k.last.parts)))) input

      less : Holds new b ds (suc n) 1
      less = record { before = k.before; last = k.last; all = k.all; count = (let c = k.count in omega arith); booked = k.booked }

      answer : (t : Bool) → is_nil (visible_named st.input (codes "order") (view_of k.last.event k.last.parts)) ≡ t →
          reply u st (left st all) (ReadPart h (codes "order"))
          ≡ cond t Reply.NoSuchPart (Reply.Parts (shown (visible_named st.input (codes "order") (view_of k.last.event k.last.parts))))
      answer t e =
          ap (λ (o : Option Handle). at_handle o (λ d. cond (is_nil (visible_named st.input (codes "order") d)) Reply.NoSuchPart
          (Reply.Parts (shown (visible_named st.input (codes "order") d))))) (is_at h st (view_of k.last.event k.last.parts) view)
          ∙ ap (λ (t : Bool). cond t Reply.NoSuchPart
          (Reply.Parts (shown (visible_named st.input (codes "order") (view_of k.last.event k.last.parts))))) e

      hears : (t : Bool) → is_nil (visible_named st.input (codes "order") (view_of k.last.event k.last.parts)) ≡ t →
          Thinks (did (mind (stage.Reads h sub 0)) (follow_of (mind (stage.Reads h sub 0)) (stage.Reads h sub 0)
          (cond t Reply.NoSuchPart (Reply.Parts (shown (visible_named st.input (codes "order") (view_of k.last.event k.last.parts)))))))
          (after u st (ReadPart h (codes "order")) (reply u st (left st all) (ReadPart h (codes "order"))) Effect.Nothing) ds
      hears true e = (less, ap heard_offer (sym (none_shown (visible_named st.input (codes "order") (view_of k.last.event k.last.parts)) e) ∙ same))
      hears false e = (less, ap heard_offer same)

      go : (t : Bool) → is_nil (visible_named st.input (codes "order") (view_of k.last.event k.last.parts)) ≡ t →
          Does (stage.Reads h sub 0) (ReadPart h (codes "order"))
      go t e = subst (λ (ds' : List Given). Thinks (did (mind (stage.Reads h sub 0)) (follow_of (mind (stage.Reads h sub 0)) (stage.Reads h sub 0)
          (reply u st (left st all) (ReadPart h (codes "order")))))
          (after u st (ReadPart h (codes "order")) (reply u st (left st all) (ReadPart h (codes "order"))) Effect.Nothing) ds') (sym (append-nil ds))
          (subst (λ (r : Reply). Thinks (did (mind (stage.Reads h sub 0)) (follow_of (mind (stage.Reads h sub 0)) (stage.Reads h sub 0) r))
          (after u st (ReadPart h (codes "order")) (reply u st (left st all) (ReadPart h (codes "order"))) Effect.Nothing) ds) (sym (answer t e)) (hears t e))

  dropped : (h : ℕ) (k : Holds new b ds n 1) → x ≡ heard_offer (offer_shown k.last) → (st' : OwnState) (r : Reply) →
      Thinks (did (mind (stage.Drops h)) (follow_of (mind (stage.Drops h)) (stage.Drops h) r)) st' ds
  dropped h k e st' Reply.Ok =
      let c = k.count in
      subst (λ (x : Heard). Sells new (acted_kind (kind.Broker b) x) (acted_heard (kind.Broker b) x)
      (told (parts_of (acted_kind (kind.Broker b) x) (acted_heard (kind.Broker b) x))) st' ds (suc n)) (sym e)
      (subst (λ (ds : List Given). Sells new (acted_kind (kind.Broker b) (heard_offer (offer_shown k.last)))
      (acted_heard (kind.Broker b) (heard_offer (offer_shown k.last)))
      (told (parts_of (acted_kind (kind.Broker b) (heard_offer (offer_shown k.last))) (acted_heard (kind.Broker b) (heard_offer (offer_shown k.last)))))
      st' ds (suc n)) k.all
      (acted_sold new b st' k.before k.last (suc n) (omega arith) k.booked (offer_shown k.last) refl))
  dropped h k e st' _ = held_most new b ds n 1 (omega arith) k

  -- a trade

  -- one trade, and those behind it
  one_told : nat_lt 0 (length (parts_of (kind.Broker b) x)) ≡ true → broker_tells x ≡ suc (broker_tells (passed_heard x))
  one_told some =
      let l : broker_tells x + length b.book ≡ suc (broker_tells (passed_heard x) + length b.book) = (tells 0 (kind.Broker b) x some).less in
      omega arith

  four_parts : nat_lt 0 (length (parts_of (kind.Broker b) x)) ≡ true → length (parts_of (kind.Broker b) x) ≡ 4
  four_parts some = good_size Broker (parts_of (kind.Broker b) x) (tells 0 (kind.Broker b) x some).good

  added : (h place : ℕ) (st' : OwnState) → suc n + 1 + (4 - place) + 6 * broker_tells (passed_heard x) ≤ most new ds → Booked new b ds →
      Sold new b x (adding (parts_of (kind.Broker b) x) h place) st' ds (suc n)
  added h place st' c k = go (nat_lt place (length (parts_of (kind.Broker b) x)))
    where
      go : (t : Bool) → Sold new b x (cond t (stage.Adds h place) (stage.Publishes h)) st' ds (suc n)
      go true = (c, k)
      go false = (omega arith, k)

  created : nat_lt 0 (length (parts_of (kind.Broker b) x)) ≡ true → n + 6 * broker_tells x ≤ most new ds → Booked new b ds →
      (st' : OwnState) (r : Reply) → Thinks (did (mind stage.Creates) (follow_of (mind stage.Creates) stage.Creates r)) st' ds
  created some c k st' (Reply.Handle h) = added h 0 st' (let t = one_told some in omega arith) k
  created some c k st' _ = let t = one_told some in omega arith

  added_one : (h place : ℕ) → nat_lt place (length (parts_of (kind.Broker b) x)) ≡ true →
      n + 1 + (4 - place) + 6 * broker_tells (passed_heard x) ≤ most new ds → Booked new b ds → (st' : OwnState) (r : Reply) →
      Thinks (did (mind (stage.Adds h place)) (follow_of (mind (stage.Adds h place)) (stage.Adds h place) r)) st' ds
  added_one h place inside c k st' Reply.Ok =
      let i = ltb-true place (length (parts_of (kind.Broker b) x)) inside in
      let f = four_parts (some_of (length (parts_of (kind.Broker b) x)) place inside) in
      added h (place + 1) st' (omega arith) k
  added_one h place inside c k st' _ = omega arith

  published_one : (h : ℕ) → n + 1 + 6 * broker_tells (passed_heard x) ≤ most new ds → Booked new b ds → (st' : OwnState) (r : Reply) →
      Thinks (did (mind (stage.Publishes h)) (follow_of (mind (stage.Publishes h)) (stage.Publishes h) r)) st' ds
  published_one h c k st' Reply.Ok =
      told_sold new (record b { next_trade = counted b.next_trade }) (passed_heard x) st' ds (suc n) (omega arith)
      (record { traders = k.traders; book = k.book })
  published_one h c k st' _ = omega arith

  -- all stages

  -- a call that is wanted whatever the broker knows
  calls_now : (g : Stage) (a c : Call) → wanted_at (mind g) g ≡ follows.Calls a → IsNow (kind.Broker b) x g st all c → Does g a → Does g c
  calls_now g a c e now does = wants_call (wanted_at (mind g) g) a c (left st all ≢ []) (Does g) e now does

  adds_now : (h place : ℕ) (c : Call) → Sold new b x (stage.Adds h place) st ds n → nat_lt place (length (parts_of (kind.Broker b) x)) ≡ true →
      IsNow (kind.Broker b) x (stage.Adds h place) st all c → Does (stage.Adds h place) c
  adds_now h place c s inside now =
      let m = drop_more (parts_of (kind.Broker b) x) place inside in
      let adds_it = AddPart h m.0.label m.0.name m.0.value in
      calls_now (stage.Adds h place) adds_it c (ap (adds h) m.1) now (gives_none (stage.Adds h place) adds_it refl (added_one h place inside s.0 s.1))

  stays : n + 1 ≤ most new ds → (h : ℕ) (st' : OwnState) (r : Reply) →
      Thinks (did (mind (stage.StoppedDrops h)) (follow_of (mind (stage.StoppedDrops h)) (stage.StoppedDrops h) r)) st' ds
  stays c h st' r = omega arith

  pub sold_step : (subs : List (ℕ × List Clause)) (g : Stage) (c : Call) → Sold new b x g st ds n → At Broker (kind.Broker b) x g u st subs →
      st.input ≡ secret broker_tag → IsNow (kind.Broker b) x g st all c → Does g c
  sold_step subs stage.Fresh c s a i now = absurd s
  sold_step subs (stage.Opens zero) c s a i now =
      calls_now (stage.Opens 0) (release_of broker_tag) c refl now (gives_none (stage.Opens 0) (release_of broker_tag) refl (released s.0 s.1 s.2))
  sold_step subs (stage.Opens (suc zero)) c s a i now =
      calls_now (stage.Opens 1) (Subscribe (present (codes "order") ∷ [])) c refl now
      (gives_none (stage.Opens 1) (Subscribe (present (codes "order") ∷ [])) refl (asked s.0 s.1 s.2))
  sold_step subs (stage.Opens (suc (suc place))) c s a i now = absurd s
  sold_step subs stage.Rests c s a i now = wants_get c (left st all ≢ []) (Does stage.Rests) now (rested a.0 s.0 s.1)
  sold_step subs (stage.Reads h sub zero) c s a i now =
      calls_now (stage.Reads h sub 0) (ReadPart h (codes "order")) c refl now (heard_now h sub s.0 s.1 i)
  sold_step subs (stage.Reads h sub (suc place)) c s a i now = absurd s
  sold_step subs (stage.Drops h) c s a i now =
      calls_now (stage.Drops h) (DropEvent h) c refl now (gives_none (stage.Drops h) (DropEvent h) refl (dropped h s.0 s.1))
  sold_step subs stage.Creates c s a i now =
      calls_now stage.Creates CreateEvent c refl now (gives_none stage.Creates CreateEvent refl (created a.0 s.0 s.1))
  sold_step subs (stage.Adds h place) c s a i now = adds_now h place c s a.0 now
  sold_step subs (stage.Publishes h) c s a i now =
      calls_now (stage.Publishes h) (Publish h) c refl now
      (gives_none (stage.Publishes h) (Publish h) (publishing_gives u st (left st all) h) (published_one h s.0 s.1))
  sold_step subs stage.Stopped c s a i now = wants_get c (left st all ≢ []) (Does stage.Stopped) now (stopped a s)
  sold_step subs (stage.StoppedDrops h) c s a i now =
      calls_now (stage.StoppedDrops h) (DropEvent h) c refl now (gives_none (stage.StoppedDrops h) (DropEvent h) refl (stays s h))

pub sells_step : (new : Books) (k : Kind) (x : Heard) (u : UnitName) (st : OwnState) (all ds : List Given) (n : ℕ) (subs : List (ℕ × List Clause))
    (g : Stage) (c : Call) → Sells new k x g st ds n → At Broker k x g u st subs → st.input ≡ secret broker_tag → IsNow k x g st all c →
    (r : Reply) (f : Effect) → reply u st (left st all) c ≡ r → effect u st (left st all) c ≡ f →
    SellsAs new (did (mind_of k x g) (follow_of (mind_of k x g) g r)) (after u st c r f) (ds ++ given_in f) (suc n)
sells_step new (kind.Broker b) x u st all ds n subs g c s a i now r f er ef =
    let does = sold_step new b x u st all ds n subs g c s a i now in
    let m = mind_of (kind.Broker b) x g in
    subst (λ (f : Effect). SellsAs new (did m (follow_of m g r)) (after u st c r f) (ds ++ given_in f) (suc n)) ef
    (subst (λ (r : Reply). SellsAs new (did m (follow_of m g r)) (after u st c r (effect u st (left st all) c))
    (ds ++ given_in (effect u st (left st all) c)) (suc n)) er does)
sells_step new _ x u st all ds n subs g c s a i now r f er ef = absurd s
