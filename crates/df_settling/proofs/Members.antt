-- The units of a floor by name, and what stands of each of them after any journal of the floor.
use Rattle.df_settling.proofs.Names.{◌≡◌, ◌⊎◌, inl, inr, ℕ, zero, suc, ◌+◌, ◌-◌, ◌*◌, ◌≤◌, List, [], ◌∷◌, ◌++◌, Bool, true, false, not, refl, sym, ◌∙◌, ap, subst, cond, Option, Some, None, map, drop, length, append-nil, arith, option_to_list, slice_get, option_and_then, option_map, option_or, slice_get-map, Config, Clause, maker_of, Label, Draft, commit_in, commit_of, contents, deliveries, deliveries_instance, deliveries_plain, instance_news, plain_news, Replied, Start, replies_of, wanted, born, fixed, made_by, own, own_instance, own_plain, root_at, stepped, root_of, roots, rows, subscriptions, begun, RootStart, Tick, same, Fixed, OwnState, after, subscribes, Call, Commit, Given, Effect, Entry, Done, Emitted, UnitName, Managed, Root, Reply, Mind, moved, first_states, floor_brain}
use Rattle.df_label.proofs.TagSetFacts.{tag_eq-itself}
use Rattle.df_floor_units.specs.declared.heard.Heard.TheVariants as heard
use Rattle.df_floor_units.specs.declared.kind.Kind.TheVariants as kind
use Rattle.df_settling.proofs.Players.{Player, all_begin, began, players, role, root_by, rooted}
use Rattle.df_settling.proofs.Roles.{Broker, Exchange, Good, Monitor, Regulator, Role, Trader, Watcher, label_of, may_tell, opening_by, out_label, role_of}
use Rattle.df_settling.proofs.Totals.{In, total, total-append}
use Rattle.df_settling.proofs.Unit.{At, IsOpening, Later, Openers, Stands, drafts, event_cost, event_of, outed, owed, price, priced, published_parts, stands_opened, subs_of, watched_filter}
use Rattle.df_settling.proofs.Worth.{watcher_tags, worth}

pub record Member : Type 0 where
  pub name : UnitName
  pub player : Player

abbrev pub plays : Member → Role
plays v = role v.player

-- the regulator's instance
abbrev pub watcher : Member
watcher = record { name = Managed (2 ∷ []) 0 watcher_tags; player = record { number = 0; kind = kind.Watcher } }

abbrev pub members_from : ℕ → List Player → List Member
members_from k [] = watcher ∷ []
members_from k (p ∷ ps) = record { name = Root (k ∷ []); player = p } ∷ members_from (k + 1) ps

abbrev pub members : Config → List Tick → List Member
members c ticks = members_from 0 (players c ticks)

pub total_members : (f : Player → ℕ) (k : ℕ) (ps : List Player) → total (λ m. f m.player) (members_from k ps) ≡ total f ps + f watcher.player
total_members f k [] = omega arith
total_members f k (p ∷ ps) = let e = total_members f (k + 1) ps in omega arith

shifted : (k i : ℕ) → (k + 1) + i ≡ k + suc i
shifted k i = omega arith

plus_zero : (k : ℕ) → k ≡ k + 0
plus_zero k = omega arith

zero_plus : (k : ℕ) → 0 + k ≡ k
zero_plus k = omega arith

-- a member is a root, or the regulator's instance
record IsRoot (k : ℕ) (ps : List Player) (v : Member) : Type 0 where
  place : ℕ
  name : v.name ≡ Root ((k + place) ∷ [])
  player : slice_get ps place ≡ Some v.player

member_kind_from : (k : ℕ) (ps : List Player) (v : Member) → In v (members_from k ps) → IsRoot k ps v ⊎ (v ≡ watcher)
member_kind_from k [] v (inl e) = inr e
member_kind_from k [] v (inr i) = absurd i
member_kind_from k (p ∷ ps) v (inl e) = inl (record {
  place = 0;
  name = ap (λ (m : Member). m.name) e ∙ ap (λ (n : ℕ). Root (n ∷ [])) (plus_zero k);
  player = ap (λ (m : Member). Some m.player) (sym e);
})
member_kind_from k (p ∷ ps) v (inr i) = elim (member_kind_from (k + 1) ps v i) [
  | inl h ↦ inl (record { place = suc h.place; name = h.name ∙ ap (λ (n : ℕ). Root (n ∷ [])) (shifted k h.place); player = h.player })
  | inr e ↦ inr e
]

pub member_kind : (c : Config) (ticks : List Tick) (v : Member) → In v (members c ticks) →
    ((i : ℕ) × (v.name ≡ Root (i ∷ [])) × (slice_get (players c ticks) i ≡ Some v.player)) ⊎ (v ≡ watcher)
member_kind c ticks v i = elim (member_kind_from 0 (players c ticks) v i) [
  | inl h ↦ inl (h.place, h.name ∙ ap (λ (n : ℕ). Root (n ∷ [])) (zero_plus h.place), h.player)
  | inr e ↦ inr e
]

root_member_from : (k : ℕ) (ps : List Player) (i : ℕ) (p : Player) → slice_get ps i ≡ Some p →
    (v : Member) × (v.name ≡ Root ((k + i) ∷ [])) × (v.player ≡ p) × In v (members_from k ps)
root_member_from k [] i p e = absurd (let z : ⊥ = cc in z)
root_member_from k (q ∷ ps) zero p e = (
  record { name = Root (k ∷ []); player = q },
  ap (λ (n : ℕ). Root (n ∷ [])) (plus_zero k),
  (let z : q ≡ p = cc in z),
  inl refl,
)
root_member_from k (q ∷ ps) (suc i) p e = let h = root_member_from (k + 1) ps i p e in (h.0, h.1 ∙ ap (λ (n : ℕ). Root (n ∷ [])) (shifted k i), h.2, inr h.3)

pub root_member : (c : Config) (ticks : List Tick) (i : ℕ) (p : Player) → slice_get (players c ticks) i ≡ Some p →
    (v : Member) × (v.name ≡ Root (i ∷ [])) × (v.player ≡ p) × In v (members c ticks)
root_member c ticks i p e = let h = root_member_from 0 (players c ticks) i p e in (h.0, h.1 ∙ ap (λ (n : ℕ). Root (n ∷ [])) (zero_plus i), h.2, h.3)

watcher_in : (k : ℕ) (ps : List Player) → In watcher (members_from k ps)
watcher_in k [] = inl refl
watcher_in k (p ∷ ps) = inr (watcher_in (k + 1) ps)

pub watcher_member : (c : Config) (ticks : List Tick) → In watcher (members c ticks)
watcher_member c ticks = watcher_in 0 (players c ticks)

pub in_of_get : (ps : List Player) (i : ℕ) (p : Player) → slice_get ps i ≡ Some p → In p ps
in_of_get [] i p e = absurd (let z : ⊥ = cc in z)
in_of_get (q ∷ ps) zero p e = inl (let z : p ≡ q = cc in z)
in_of_get (q ∷ ps) (suc i) p e = inr (in_of_get ps i p e)

-- the states of the roots

abbrev pub first_state : Role → OwnState
first_state r = root_of (begun (root_by r))

pub state_at : (c : Config) (ticks : List Tick) (i : ℕ) (p : Player) → slice_get (players c ticks) i ≡ Some p →
    slice_get (first_states c) i ≡ Some (first_state (role p))
state_at c ticks i p e =
    ap (λ (rs : List RootStart). slice_get (roots (map begun rs)) i) (all_begin c ticks)
    ∙ slice_get-map root_of (map begun (map rooted (players c ticks))) i
    ∙ ap (option_map root_of) (slice_get-map begun (map rooted (players c ticks)) i)
    ∙ ap (λ (o : Option RootStart). option_map root_of (option_map begun o)) (slice_get-map rooted (players c ticks) i)
    ∙ ap (λ (o : Option Player). option_map root_of (option_map begun (option_map rooted o))) e

player_at_from : (ps : List Player) (i : ℕ) (st : OwnState) → slice_get (roots (map begun (map rooted ps))) i ≡ Some st →
    (p : Player) × (slice_get ps i ≡ Some p)
player_at_from [] i st e = absurd (let z : ⊥ = cc in z)
player_at_from (p ∷ ps) zero st e = (p, refl)
player_at_from (p ∷ ps) (suc i) st e = player_at_from ps i st e

pub player_at : (c : Config) (ticks : List Tick) (i : ℕ) (st : OwnState) → slice_get (first_states c) i ≡ Some st →
    (p : Player) × (slice_get (players c ticks) i ≡ Some p)
player_at c ticks i st e = player_at_from (players c ticks) i st
    (ap (λ (rs : List RootStart). slice_get (roots (map begun rs)) i) (sym (all_begin c ticks)) ∙ e)

pub mind_at : (ps : List Player) (i : ℕ) (p : Player) → slice_get ps i ≡ Some p → slice_get (map began ps) i ≡ Some (began p)
mind_at ps i p e = slice_get-map began ps i ∙ ap (option_map began) e

pub stepped_was : (u : UnitName) (e : Entry) (o : Option OwnState) (st : OwnState) → stepped rows u e o ≡ Some st → (was : OwnState) × (o ≡ Some was)
stepped_was u (Emitted c) o st h = (st, h)
stepped_was u (Done a c r f) o st h = go (same a u) o h
  where
    go : (b : Bool) (o : Option OwnState) → cond b (option_map (λ st. after u st c r f) o) o ≡ Some st → (was : OwnState) × (o ≡ Some was)
    go b (Some x) h = (x, refl)
    go true None h = absurd (let z : ⊥ = cc in z)
    go false None h = absurd (let z : ⊥ = cc in z)

-- what a unit thinks

abbrev pub the_mind : Member → List Entry → Mind
the_mind v past = (wanted floor_brain (began v.player) (replies_of v.name past)).1

pub mind_other : (v : Member) (a : UnitName) (c : Call) (r : Reply) (f : Effect) (past : List Entry) → same a v.name ≡ false →
    the_mind v (Done a c r f ∷ past) ≡ the_mind v past
mind_other v a c r f past e = ap (λ (b : Bool). (wanted floor_brain (began v.player) (cond b (r ∷ replies_of v.name past) (replies_of v.name past))).1) e

pub mind_actor : (v : Member) (a : UnitName) (c : Call) (r : Reply) (f : Effect) (past : List Entry) → same a v.name ≡ true →
    the_mind v (Done a c r f ∷ past) ≡ moved (the_mind v past) (Replied r)
mind_actor v a c r f past e = ap (λ (b : Bool). (wanted floor_brain (began v.player) (cond b (r ∷ replies_of v.name past) (replies_of v.name past))).1) e

-- a unit's state and subscriptions after one more entry

pub own_actor : (s : List OwnState) (past : List Entry) (n : UnitName) (a : UnitName) (c : Call) (r : Reply) (f : Effect) (st : OwnState) → same a n ≡ true →
    own rows s past n ≡ Some st → own rows s (Done a c r f ∷ past) n ≡ Some (after n st c r f)
own_actor s past (Root path) a c r f st e o = ap (λ (x : Option OwnState). option_or x
    (made_by rows (Done a c r f) path (own_plain rows s past (maker_of path))))
    (ap (λ (b : Bool). cond b (option_map (λ st. after (Root path) st c r f) (own_plain rows s past path)) (own_plain rows s past path)) e
    ∙ ap (option_map (λ st. after (Root path) st c r f)) o)
own_actor s past (Managed p n t) a c r f st e o = ap (λ (x : Option OwnState). option_or x (born rows (fixed rows s past p n) t past (commit_in f)))
    (ap (λ (b : Bool). cond b (option_map (λ st. after (Managed p n t) st c r f) (own_instance rows s past p n t)) (own_instance rows s past p n t)) e
    ∙ ap (option_map (λ st. after (Managed p n t) st c r f)) o)

pub own_other : (s : List OwnState) (past : List Entry) (n : UnitName) (a : UnitName) (c : Call) (r : Reply) (f : Effect) (st : OwnState) →
    same a n ≡ false → own rows s past n ≡ Some st → own rows s (Done a c r f ∷ past) n ≡ Some st
own_other s past (Root path) a c r f st e o = ap (λ (x : Option OwnState). option_or x
    (made_by rows (Done a c r f) path (own_plain rows s past (maker_of path))))
    (ap (λ (b : Bool). cond b (option_map (λ st. after (Root path) st c r f) (own_plain rows s past path)) (own_plain rows s past path)) e ∙ o)
own_other s past (Managed p n t) a c r f st e o = ap (λ (x : Option OwnState). option_or x (born rows (fixed rows s past p n) t past (commit_in f)))
    (ap (λ (b : Bool). cond b (option_map (λ st. after (Managed p n t) st c r f) (own_instance rows s past p n t)) (own_instance rows s past p n t)) e ∙ o)

pub subs_actor : (s : List OwnState) (past : List Entry) (n : UnitName) (a : UnitName) (c : Call) (r : Reply) (f : Effect) (st : OwnState) →
    same a n ≡ true → own rows s past n ≡ Some st →
    subscriptions rows s (Done a c r f ∷ past) n ≡ subscriptions rows s past n ++ option_to_list (subscribes st c r)
subs_actor s past n a c r f st e o =
    ap (λ (b : Bool). subscriptions rows s past n ++ option_to_list (cond b (option_and_then (λ st. subscribes st c r) (own rows s past n)) None)) e
    ∙ ap (λ (x : Option OwnState). subscriptions rows s past n ++ option_to_list (option_and_then (λ st. subscribes st c r) x)) o

pub subs_other : (s : List OwnState) (past : List Entry) (n : UnitName) (a : UnitName) (c : Call) (r : Reply) (f : Effect) → same a n ≡ false →
    subscriptions rows s (Done a c r f ∷ past) n ≡ subscriptions rows s past n
subs_other s past n a c r f e =
    ap (λ (b : Bool). subscriptions rows s past n ++ option_to_list (cond b (option_and_then (λ st. subscribes st c r) (own rows s past n)) None)) e
    ∙ append-nil (subscriptions rows s past n)

-- what a unit may still cost

abbrev pub pot_of : (Role → ℕ) → Role → Mind → ℕ → List Given → ℕ
pot_of w r b given ds = owed w r b.kind b.heard b.stage + priced w r (drop given ds)

abbrev pub given_of : Option OwnState → ℕ
given_of None = 0
given_of (Some st) = st.given

abbrev pub events_of : Option OwnState → ℕ
events_of None = 0
events_of (Some st) = st.events

abbrev pub pot : (Role → ℕ) → List OwnState → List Entry → Member → ℕ
pot w s past v = pot_of w (plays v) (the_mind v past) (given_of (own rows s past v.name)) (deliveries rows s past v.name)

pub priced_drop_all : (w : Role → ℕ) (r : Role) (g : ℕ) (ds : List Given) → priced w r (drop g ds) ≤ priced w r ds
priced_drop_all w r zero ds = omega arith
priced_drop_all w r (suc g) [] = omega arith
priced_drop_all w r (suc g) (d ∷ ds) = let k = priced_drop_all w r g ds in omega arith

priced_drop : (w : Role → ℕ) (r : Role) (g : ℕ) (ds more : List Given) → priced w r (drop g (ds ++ more)) ≤ priced w r (drop g ds) + priced w r more
priced_drop w r zero ds more = let e = total-append (λ (d : Given). price w r d.sub) ds more in omega arith
priced_drop w r (suc g) [] more = let k = priced_drop_all w r (suc g) more in omega arith
priced_drop w r (suc g) (d ∷ ds) more = priced_drop w r g ds more

pub pot_grows : (w : Role → ℕ) (r : Role) (b : Mind) (g : ℕ) (ds more : List Given) → pot_of w r b g (ds ++ more) ≤ pot_of w r b g ds + priced w r more
pot_grows w r b g ds more = let k = priced_drop w r g ds more in omega arith

abbrev pub news : List OwnState → List Entry → UnitName → Option Commit → List Given
news s past (Root path) oc = plain_news (own_plain rows s past path) (subscriptions rows s past (Root path)) (deliveries_plain rows s past path) past oc
news s past (Managed o n t) oc = instance_news (fixed rows s past o n) n t (deliveries_instance rows s past o n t) past oc

pub deliveries_grow : (s : List OwnState) (e : Entry) (past : List Entry) (n : UnitName) →
    deliveries rows s (e ∷ past) n ≡ deliveries rows s past n ++ news s past n (commit_of e)
deliveries_grow s e past (Root path) = refl
deliveries_grow s e past (Managed o n t) = refl

-- what stands of a member

abbrev pub Lives : Member → Mind → List Entry → List (ℕ × List Clause) → Option OwnState → Type 0
Lives v b past subs None = (v ≡ watcher) × (replies_of v.name past ≡ []) × (subs ≡ [])
Lives v b past subs (Some st) = (st.input ≡ label_of (plays v)) × Later (plays v) subs × At (plays v) b.kind b.heard b.stage v.name st subs

pub record Inv (s : List OwnState) (past : List Entry) (v : Member) : Type 0 where
  pub state : Option OwnState
  pub own_is : own rows s past v.name ≡ state
  pub kind_is : role_of v.player.number (the_mind v past).kind ≡ plays v
  pub untouched : (k : ℕ) → events_of state ≤ k + drafts (the_mind v past).stage → contents past (event_of v.name k) ≡ []
  pub lives : Lives v (the_mind v past) past (subscriptions rows s past v.name) state

-- what the regulator's subscription keeps
pub record IsWatched (f : Fixed) : Type 0 where
  pub filter : f.filter ≡ watched_filter
  pub base : f.base ≡ []
  pub input_integrity : f.input_integrity ≡ []
  pub output_integrity : f.output_integrity ≡ []

-- the regulator alone has a managed subscription, and it one
abbrev pub FixedOk : List OwnState → List Entry → Type 0
FixedOk s past = (o : List ℕ) (n : ℕ) (f : Fixed) → fixed rows s past o n ≡ Some f → (o ≡ 2 ∷ []) × (n ≡ 0) × IsWatched f

-- it has one instance
abbrev pub InstancesOk : List OwnState → List Entry → Type 0
InstancesOk s past = (o : List ℕ) (n : ℕ) (t : List (List ℕ)) (st : OwnState) → own_instance rows s past o n t ≡ Some st →
    (o ≡ 2 ∷ []) × (n ≡ 0) × (t ≡ watcher_tags)

-- no unit makes a unit
abbrev pub RootsAlone : List OwnState → List Entry → Type 0
RootsAlone s past = (path : List ℕ) (st : OwnState) → own_plain rows s past path ≡ Some st → (first : OwnState) × (root_at s path ≡ Some first)

-- a commit is to a new event of the actor, and one of its events
abbrev pub IsFresh : List Entry → UnitName → Role → Effect → Type 0
IsFresh past a r Effect.Nothing = Unit {0}
IsFresh past a r (Effect.Commit c) = (contents past c.event ≡ []) × (c.event.unit ≡ a)
    × ((ds : List Draft) × Good r ds × (c.edit ≡ ([], published_parts r ds)))
IsFresh past a r (Effect.Given d) = Unit {0}

abbrev pub gains : (Role → ℕ) → Role → Effect → ℕ
gains w r Effect.Nothing = 0
gains w r (Effect.Commit c) = worth w r c.edit.1
gains w r (Effect.Given d) = 0

-- the start

out_opening : (r : Role) → outed (label_of r) (opening_by r) ≡ out_label r
out_opening Exchange = refl
out_opening Broker = refl
out_opening Regulator = refl
out_opening (Trader j) = ap (λ (b : Bool). record { s = cond (not b) (((3 + j) ∷ []) ∷ []) []; i = [] }) (tag_eq-itself ((3 + j) ∷ []))
out_opening (Monitor j a b) = refl
out_opening Watcher = refl

openers_opening : (r : Role) → Openers r 0 (opening_by r)
openers_opening Exchange = tt
openers_opening Broker = tt
openers_opening Regulator = (refl, refl, refl, refl, tt)
openers_opening (Trader j) = tt
openers_opening (Monitor j a b) = tt
openers_opening Watcher = tt

first_output : (r : Role) → (first_state r).output ≡ label_of r
first_output Exchange = refl
first_output Broker = refl
first_output Regulator = refl
first_output (Trader j) = refl
first_output (Monitor j a b) = refl
first_output Watcher = refl

first_input : (r : Role) → (first_state r).input ≡ label_of r
first_input Exchange = refl
first_input Broker = refl
first_input Regulator = refl
first_input (Trader j) = refl
first_input (Monitor j a b) = refl
first_input Watcher = refl

pub first_opening : (r : Role) → IsOpening r (first_state r) [] (opening_by r)
first_opening r = record {
  closed = inl refl;
  out = ap (λ (l : Label). outed l (opening_by r)) (first_output r) ∙ out_opening r;
  made = refl;
  openers = openers_opening r;
}

-- at the first call of the opening
pub opens_first : (w : Role → ℕ) (p : Player) (u : UnitName) (st : OwnState) → IsOpening (role p) st [] (opening_by (role p)) →
    Stands w (role p) (moved (began p) Start).kind (moved (began p) Start).heard u (moved (began p) Start).stage st []
    ((length (opening_by (role p)) - 0) + may_tell p.kind heard.Nothing * event_cost w (role p)) 0
opens_first w p u st h = stands_opened w (role p) p.number p.kind heard.Nothing u refl 0 st [] h

abbrev no_weight : Role → ℕ
no_weight r = 0

first_root : (c : Config) (ticks : List Tick) (v : Member) (i : ℕ) → v.name ≡ Root (i ∷ []) → slice_get (players c ticks) i ≡ Some v.player →
    Inv (first_states c) [] v
first_root c ticks v i n e = record {
  state = Some (first_state (plays v));
  own_is = ap (own rows (first_states c) []) n ∙ state_at c ticks i v.player e;
  kind_is = refl;
  untouched = λ k h. refl;
  lives = (first_input (plays v), (subs_of (plays v), refl), (opens_first no_weight v.player v.name (first_state (plays v)) (first_opening (plays v))).at);
}

pub first_member : (c : Config) (ticks : List Tick) (v : Member) → In v (members c ticks) → Inv (first_states c) [] v
first_member c ticks v i = elim (member_kind c ticks v i) [
  | inl h ↦ first_root c ticks v h.0 h.1 h.2
  | inr e ↦ subst (Inv (first_states c) []) (sym e) (record {
    state = None;
    own_is = refl;
    kind_is = refl;
    untouched = λ k h. refl;
    lives =
        (refl, refl, refl);
  })
]
