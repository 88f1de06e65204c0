-- What an entry of a unit brings to all units of the floor.
use Rattle.df_settling.proofs.Names.{◌≡◌, ◌≢◌, ◌⊎◌, inl, inr, ℕ, ◌+◌, ◌≤◌, List, [], ◌∷◌, Bool, true, false, ◌&&◌, not, refl, sym, ◌∙◌, ap, subst, cond, ◌++◌, Option, Some, None, arith, eqb-true, ◌==◌, option_to_list, slice_get, IsConfig, Config, Clause, apply, spared, cut, Spot, Part, gives, commit_in, committed, contents, deliveries, deliveries_instance, deliveries_plain, instance_news, plain_news, was_handed, Calls, IsWanted, Wait, began_with, replies_of, wanted, answer, answer_of, left, fixed, is_given, own, own_plain, rows, subscriptions, Tick, same, same_event, Fixed, OwnState, after, effect, reply, subscribes, Call, Get, Commit, Given, Effect, Entry, EventName, UnitName, Root, Reply, floor_brains, Mind, did, follow_of, first_states, floor_brain}
use Rattle.df_unit.specs.Beginnings.{readable_at}
use Rattle.df_settling.proofs.Members.{FixedOk, Inv, IsFresh, IsWatched, Lives, Member, events_of, gains, in_of_get, member_kind, members, mind_at, news, plays, the_mind, watcher}
use Rattle.df_settling.proofs.Paid.{AllApart}
use Rattle.df_settling.proofs.Players.{all_think, began, players}
use Rattle.df_settling.proofs.Roles.{Apart, Broker, Exchange, Monitor, Regulator, Role, Trader, Watcher, label_of}
use Rattle.df_settling.proofs.Steps.{unit_step}
use Rattle.df_settling.proofs.Totals.{In, total}
use Rattle.df_settling.proofs.Unit.{IsFine, Later, Moves, Outcome, drafts, event_of, price, priced, subs_of, watched_filter}
use Rattle.df_settling.proofs.Wanted.{IsNow}
use Rattle.df_settling.proofs.Worth.{news_worth, sub_worth, watcher_tags, worth}

-- contents

abbrev pub Elsewhere : Effect → UnitName → ℕ → Type 0
Elsewhere Effect.Nothing u k = Unit {0}
Elsewhere (Effect.Commit c) u k = (same c.event.unit u ≡ false) ⊎ (c.event.number ≡ k → ⊥)
Elsewhere (Effect.Given d) u k = Unit {0}

other_event : (c : Commit) (u : UnitName) (k : ℕ) → (same c.event.unit u ≡ false) ⊎ (c.event.number ≡ k → ⊥) → same_event c.event (event_of u k) ≡ false
other_event c u k (inl e) = ap (λ (b : Bool). (c.event.number == k) && b) e ∙ no (c.event.number == k)
  where
    no : (b : Bool) → (b && false) ≡ false
    no true = refl
    no false = refl
other_event c u k (inr h) = go (c.event.number == k) refl
  where
    go : (b : Bool) → (c.event.number == k) ≡ b → (b && same c.event.unit u) ≡ false
    go true e = absurd (h (eqb-true c.event.number k e))
    go false e = refl

pub contents_kept : (past : List Entry) (f : Effect) (u : UnitName) (k : ℕ) → contents past (event_of u k) ≡ [] → Elsewhere f u k →
    committed (event_of u k) (commit_in f) (contents past (event_of u k)) ≡ []
contents_kept past Effect.Nothing u k h e = h
contents_kept past (Effect.Commit c) u k h e = ap (λ (b : Bool). cond b (apply c.edit (contents past (event_of u k))) (contents past (event_of u k)))
    (other_event c u k e) ∙ h
contents_kept past (Effect.Given d) u k h e = h

-- news

no_plain_news : (o : Option OwnState) (subs : List (ℕ × List Clause)) (ds : List Given) (past : List Entry) → plain_news o subs ds past None ≡ []
no_plain_news None subs ds past = refl
no_plain_news (Some st) subs ds past = refl

no_instance_news : (fx : Option Fixed) (n : ℕ) (t : List (List ℕ)) (ds : List Given) (past : List Entry) → instance_news fx n t ds past None ≡ []
no_instance_news None n t ds past = refl
no_instance_news (Some f) n t ds past = refl

pub no_news : (s : List OwnState) (past : List Entry) (n : UnitName) → news s past n None ≡ []
no_news s past (Root path) = no_plain_news (own_plain rows s past path) (subscriptions rows s past (Root path)) (deliveries_plain rows s past path) past
no_news s past (UnitName.Managed o n t) = no_instance_news (fixed rows s past o n) n t (deliveries_instance rows s past o n t) past

worth_root : (w : Role → ℕ) (r : Role) (parts : List Part) → Apart r → total (sub_worth w r (cut (label_of r) parts)) (subs_of r) ≤ worth w r parts
worth_root w Exchange parts a = omega arith
worth_root w Broker parts a = omega arith
worth_root w Regulator parts a = omega arith
worth_root w (Trader j) parts a = omega arith
worth_root w (Monitor j x y) parts a = omega arith
worth_root w Watcher parts a = absurd a

pub is_given_watched : (f : Fixed) → IsWatched f → (t : List (List ℕ)) (past : List Entry) (c : Commit) (added : List Part) → contents past c.event ≡ [] →
    c.edit ≡ ([], added) → is_given (Some f) t past (Some c) ≡ gives watched_filter [] t [] false [] added
is_given_watched f w t past c added e edit =
    ap (λ (ps : List Part). gives f.filter f.input_integrity t f.base false (spared c.edit.0 ps) c.edit.1) e
    ∙ ap (λ (ed : List Spot × List Part). gives f.filter f.input_integrity t f.base false (spared ed.0 []) ed.1) edit
    ∙ ap (λ (cs : List Clause). gives cs f.input_integrity t f.base false [] added) w.filter
    ∙ ap (λ (i : List (List ℕ)). gives watched_filter i t f.base false [] added) w.input_integrity
    ∙ ap (λ (b : List (List ℕ)). gives watched_filter [] t b false [] added) w.base

instance_worth : (w : Role → ℕ) (s : List OwnState) (past : List Entry) (fx : Option Fixed) → fixed rows s past (2 ∷ []) 0 ≡ fx → FixedOk s past →
    (ds : List Given) (c : Commit) (added : List Part) → contents past c.event ≡ [] → c.edit ≡ ([], added) →
    priced w Watcher (instance_news fx 0 watcher_tags ds past (Some c)) ≤ worth w Watcher added
instance_worth w s past None e ok ds c added h edit = omega arith
instance_worth w s past (Some f) e ok ds c added h edit =
    subst (λ (b : Bool). priced w Watcher (instance_news (Some f) 0 watcher_tags ds past (Some c)) ≤ cond b (price w Watcher 0) 0)
    (is_given_watched f (ok (2 ∷ []) 0 f e).2 watcher_tags past c added h edit)
    (go (is_given (Some f) watcher_tags past (Some c)) (not (was_handed ds c.event 0)))
  where
    go : (a b : Bool) → priced w Watcher (cond (a && b) (record {
      event = c.event;
      sub = 0;
      parts =
          cut (readable_at f watcher_tags) (apply c.edit (contents past c.event));
    } ∷ []) []) ≤ cond a (price w Watcher 0) 0
    go true true = omega arith
    go true false = omega arith
    go false b = omega arith

root_gain : (w : Role → ℕ) (s : List OwnState) (past : List Entry) (v : Member) (i : ℕ) → v.name ≡ Root (i ∷ []) → Apart (plays v) →
    (b : Mind) (o : Option OwnState) → own rows s past v.name ≡ o → Lives v b past (subscriptions rows s past v.name) o → (c : Commit) (added : List Part) →
    contents past c.event ≡ [] → c.edit ≡ ([], added) →
    priced w (plays v) (news s past v.name (Some c)) ≤ worth w (plays v) added
root_gain w s past v i n a b None own lives c added e edit = let z : Root (i ∷ []) ≡ watcher.name =
    sym n ∙ ap (λ (m : Member). m.name) lives.0 in absurd (let y : ⊥ = cc in y)
root_gain w s past v i n a b (Some st) own lives c added e edit =
    let later : Later (plays v) (subscriptions rows s past (Root (i ∷ []))) =
    subst (λ (m : UnitName). Later (plays v) (subscriptions rows s past m)) n lives.1 in
    let here : own_plain rows s past (i ∷ []) ≡ Some st = subst (λ (m : UnitName). Rattle.df_rules.specs.Own.own rows s past m ≡ Some st) n own in
    let subs = subscriptions rows s past (Root (i ∷ [])) in
    let ds = deliveries_plain rows s past (i ∷ []) in
    let x = news_worth w (plays v) st subs later.0 later.1 ds past c (label_of (plays v)) added lives.0 e edit in
    let y = worth_root w (plays v) added a in
    let k : priced w (plays v) (plain_news (own_plain rows s past (i ∷ [])) subs ds past (Some c)) ≤ worth w (plays v) added =
    subst (λ (o : Option OwnState). priced w (plays v) (plain_news o subs ds past (Some c)) ≤ worth w (plays v) added) (sym here) (omega arith) in
    subst (λ (m : UnitName). priced w (plays v) (news s past m (Some c)) ≤ worth w (plays v) added) (sym n) k

pub news_gain : (w : Role → ℕ) (c : Config) (ticks : List Tick) → AllApart c ticks → (past : List Entry) (v : Member) → In v (members c ticks) →
    Inv (first_states c) past v → FixedOk (first_states c) past →
    (a : UnitName) (r : Role) (f : Effect) → IsFresh past a r f → priced w (plays v) (news (first_states c) past v.name (commit_in f)) ≤ gains w (plays v) f
news_gain w c ticks apart past v i inv ok a r Effect.Nothing fresh = let e = ap (priced w (plays v)) (no_news (first_states c) past v.name) in omega arith
news_gain w c ticks apart past v i inv ok a r (Effect.Given d) fresh = let e = ap (priced w (plays v)) (no_news (first_states c) past v.name) in omega arith
news_gain w c ticks apart past v i inv ok a r (Effect.Commit k) fresh =
    subst (λ (ps : List Part). priced w (plays v) (news (first_states c) past v.name (Some k)) ≤ worth w (plays v) ps)
    (sym (ap (λ (ed : List Spot × List Part). ed.1) fresh.2.2))
    (elim (member_kind c ticks v i) [
      | inl h ↦ root_gain w (first_states c) past v h.0 h.1 (apart v.player (in_of_get (players c ticks) h.0 v.player h.2)) (the_mind v past) inv.state
          inv.own_is inv.lives k added fresh.0 fresh.2.2
      | inr e ↦ subst (λ (m : Member). priced w (plays m) (news (first_states c) past m.name (Some k)) ≤ worth w (plays m) added) (sym e)
          (instance_worth w (first_states c) past (fixed rows (first_states c) past (2 ∷ []) 0) refl ok
          (deliveries_instance rows (first_states c) past (2 ∷ []) 0 watcher_tags) k added fresh.0 fresh.2.2)
    ])
  where
    added : List Part
    added = Rattle.df_settling.proofs.Unit.published_parts r fresh.2.0

-- what the actor does

pub record Does (c : Config) (ticks : List Tick) (past : List Entry) (a : UnitName) (call : Call) (r : Reply) (f : Effect) : Type 0 where
  pub right : answer rows (first_states c) past a call ≡ (r, f)
  pub follows : (st : OwnState) × (x : Mind) × IsWanted floor_brain rows (first_states c) (floor_brains c ticks) past a call st x

begun_is : (c : Config) (ticks : List Tick) → IsConfig c → (past : List Entry) (v : Member) → In v (members c ticks) → (x : Mind) →
    began_with floor_brain rows (first_states c) (floor_brains c ticks) past v.name ≡ Some x → began v.player ≡ x
begun_is c ticks form past v i x e = elim (member_kind c ticks v i) [
  | inl h ↦ let m = ap (λ (ms : List Mind). slice_get ms h.0) (all_think c ticks form) ∙ mind_at (players c ticks) h.0 v.player h.2 in
      let k : slice_get (floor_brains c ticks) h.0 ≡ Some x =
      subst (λ (n : UnitName). began_with floor_brain rows (first_states c) (floor_brains c ticks) past n ≡ Some x) h.1 e in
      let y : Some (began v.player) ≡ Some x = sym m ∙ k in cc
  | inr w ↦ let k : Some (began watcher.player) ≡ Some x = subst
      (λ (m : Member). began_with floor_brain rows (first_states c) (floor_brains c ticks) past m.name ≡ Some x) w e in
      let y : began watcher.player ≡ x = cc in ap (λ (m : Member). began m.player) w ∙ y
]

-- what an entry did to its unit, as the journal has it
abbrev pub Result : (Role → ℕ) → Role → ℕ → Mind → UnitName → OwnState → List (ℕ × List Clause) → List Given → Call → Reply → Effect → Type 0
Result w r j b u st subs ds call answer f = Moves w r j b.kind b.heard b.stage (did b (follow_of b b.stage answer)) u st (after u st call answer f)
    (subs ++ option_to_list (subscribes st call answer)) ds f

moves_of : (w : Role → ℕ) (r : Role) (j : ℕ) (b : Mind) (u : UnitName) (st : OwnState) (subs : List (ℕ × List Clause)) (ds : List Given) (call : Call) →
    Outcome w r j b.kind b.heard u st subs ds b.stage call → (a : Reply) (f : Effect) → reply u st (left st ds) call ≡ a →
    effect u st (left st ds) call ≡ f → Result w r j b u st subs ds call a f
moves_of w r j b u st subs ds call o a f er ef =
    let x : o.answer ≡ a = sym o.replies ∙ er in
    let y : o.does ≡ f = sym o.effects ∙ ef in
    let m : Moves w r j b.kind b.heard b.stage (did b (follow_of b b.stage o.answer)) u st (after u st call o.answer o.does) o.subscribed ds o.does =
    subst (λ (m : Mind). Moves w r j b.kind b.heard b.stage m u st (after u st call o.answer o.does) o.subscribed ds o.does) (sym o.moved) o.moves in
    let n : Result w r j b u st subs ds call o.answer o.does =
    subst (λ (subs' : List (ℕ × List Clause)). Moves w r j b.kind b.heard b.stage (did b (follow_of b b.stage o.answer)) u st
    (after u st call o.answer o.does) subs' ds o.does) (sym o.subscribing) m in
    subst (λ (a : Reply). Result w r j b u st subs ds call a f) x (subst (λ (f : Effect). Result w r j b u st subs ds call o.answer f) y n)

abbrev pub ActorMoves : (Role → ℕ) → List OwnState → List Entry → Member → Call → Reply → Effect → OwnState → Type 0
ActorMoves w s past v call r f st = Result w (plays v) v.player.number (the_mind v past) v.name st (subscriptions rows s past v.name)
    (deliveries rows s past v.name) call r f

pub record Acts (w : Role → ℕ) (s : List OwnState) (past : List Entry) (v : Member) (call : Call) (r : Reply) (f : Effect) : Type 0 where
  pub st : OwnState
  pub own_is : own rows s past v.name ≡ Some st
  pub lives : Lives v (the_mind v past) past (subscriptions rows s past v.name) (Some st)
  pub now : IsNow (the_mind v past).kind (the_mind v past).heard (the_mind v past).stage st (deliveries rows s past v.name) call
  pub replies : reply v.name st (left st (deliveries rows s past v.name)) call ≡ r
  pub effects : effect v.name st (left st (deliveries rows s past v.name)) call ≡ f
  pub moves : ActorMoves w s past v call r f st

pub actor_moves : (w : Role → ℕ) (c : Config) (ticks : List Tick) → IsConfig c → (past : List Entry) (v : Member) → In v (members c ticks) →
    Inv (first_states c) past v → (call : Call) (r : Reply) (f : Effect) → Does c ticks past v.name call r f → Acts w (first_states c) past v call r f
actor_moves w c ticks form past v i inv call r f does =
    let st = does.follows.0 in
    let x = does.follows.1 in
    let h = does.follows.2 in
    let s = first_states c in
    let ds = deliveries rows s past v.name in
    let subs = subscriptions rows s past v.name in
    let b = the_mind v past in
    let is : inv.state ≡ Some st = sym inv.own_is ∙ h.own in
    let lives : Lives v b past subs (Some st) = subst (Lives v b past subs) is inv.lives in
    let began_as = begun_is c ticks form past v i x h.begun in
    let now : IsNow b.kind b.heard b.stage st ds call = subst (λ (y : Mind). ((wanted floor_brain y (replies_of v.name past)).0 ≡ Calls call)
    ⊎ (((wanted floor_brain y (replies_of v.name past)).0 ≡ Wait) × (call ≡ Get) × (left st ds ≢ []))) (sym began_as) h.call in
    let right : answer_of rows v.name (Some st) ds call ≡ (r, f) =
    subst (λ (o : Option OwnState). answer_of rows v.name o ds call ≡ (r, f)) h.own does.right in
    let er : reply v.name st (left st ds) call ≡ r = ap (λ (p : Reply × Effect). p.0) right in
    let ef : effect v.name st (left st ds) call ≡ f = ap (λ (p : Reply × Effect). p.1) right in
    let o = unit_step w (plays v) v.player.number b.kind b.heard v.name st subs ds inv.kind_is lives.1 b.stage call lives.2 now in
    record {
      st = st;
      own_is = h.own;
      lives = lives;
      now = now;
      replies = er;
      effects = ef;
      moves = moves_of w (plays v) v.player.number b v.name st subs ds call o r f er ef;
    }

-- its commit is fresh
pub fresh_commit : (s : List OwnState) (past : List Entry) (v : Member) → Inv s past v → (st : OwnState) → own rows s past v.name ≡ Some st → (f : Effect) →
    IsFine (plays v) (the_mind v past).stage v.name st f → IsFresh past v.name (plays v) f
fresh_commit s past v inv st own Effect.Nothing fine = tt
fresh_commit s past v inv st own (Effect.Given d) fine = tt
fresh_commit s past v inv st own (Effect.Commit c) fine =
    let n = fine.1 in
    let e = fine.4 in
    let is : inv.state ≡ Some st = sym inv.own_is ∙ own in
    let few : events_of inv.state ≤ n + drafts (the_mind v past).stage =
    subst (λ (o : Option OwnState). events_of o ≤ n + drafts (the_mind v past).stage) (sym is) fine.3 in
    let none = inv.untouched n few in
    let ev : c.event ≡ event_of v.name n = ap (λ (k : Commit). k.event) e in
    (subst (λ (x : EventName). contents past x ≡ []) (sym ev) none, ap (λ (x : EventName). x.unit) ev, (fine.0, fine.2, ap (λ (k : Commit). k.edit) e))
