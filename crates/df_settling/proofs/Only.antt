-- Which units there are: the roots and the regulator's instance.
use Rattle.df_settling.proofs.Names.{◌≡◌, ◌≢◌, ◌⊎◌, inl, inr, ℕ, zero, suc, ◌+◌, List, [], ◌∷◌, ◌++◌, Bool, true, false, true≢false, refl, sym, ◌∙◌, ap, subst, cond, Option, Some, None, length, drop, get_or, eqb-true, ◌==◌, nat_le, slice_get, option_and_then, option_or, IsConfig, Config, PairRow, TraderRow, Clause, maker_of, Label, public, Draft, commit_in, deliveries, Calls, Wait, Want, last_of, replies_of, state_after, left, born, fixed, is_given, made_by, own, own_instance, own_plain, stepped, rows, subscriptions, Tick, most_subs, same, Fixed, OwnState, is_instance, reply, Call, AddPart, CreateEvent, DropEvent, Get, Publish, ReadPart, SubscribeManaged, Commit, Given, Effect, Entry, Done, UnitName, Managed, Root, Reply, same_name-exact, Mind, adds, calls, reads, wanted_at, reads_of, opening, parts_of, Heard, Kind, Stage, first_states, floor_brain}
use Rattle.df_brain.specs.Brain.{is_child_wanted, makes_child}
use Rattle.df_label.specs.Tag.{number_of}
use Rattle.df_label.specs.TagSet.{meet, union}
use Rattle.df_rules.proofs.RowLaws.{makes_is}
use Rattle.df_rules.proofs.Steps.{or_is}
use Rattle.df_unit.specs.Beginnings.{fixed_of, fixes, makes}
use Rattle.df_floor_units.specs.Units.{makes_no_unit}
use Rattle.df_floor_units.specs.declared.stage.Stage.TheVariants as stage
use Rattle.df_settling.proofs.Entries.{born_is, no_weight}
use Rattle.df_settling.proofs.Members.{FixedOk, InstancesOk, Inv, IsFresh, IsWatched, Member, RootsAlone, member_kind, members, plays, stepped_was, the_mind, watcher}
use Rattle.df_settling.proofs.Players.{Player, blank, broker, exchange, monitor_player, monitor_players, players, role, trader_player, trader_players, watching_players}
use Rattle.df_settling.proofs.Roles.{Broker, Exchange, Monitor, Regulator, Role, Trader, label_of, opening_by, opening_is, out_label, role_of}
use Rattle.df_settling.proofs.Settles.{Acts, Does, is_given_watched}
use Rattle.df_settling.proofs.Wanted.{IsNow}
use Rattle.df_settling.proofs.Totals.{In}
use Rattle.df_settling.proofs.Unit.{At, IsOpening, drop_more, mind_of, outed, published_parts, watched_filter}
use Rattle.df_settling.proofs.Worth.{given_tags, watcher_tags}

-- the regulator's subscription

record Fixes (st : OwnState) (n : ℕ) (c : Call) (r : Reply) (f : Fixed) : Type 0 where
  filter : List Clause
  asked : c ≡ SubscribeManaged filter
  answered : r ≡ Reply.Sub n
  kept : fixed_of st filter ≡ f

fixes_is : (st : OwnState) (n : ℕ) (c : Call) (r : Reply) (f : Fixed) → fixes st n c r ≡ Some f → Fixes st n c r f
fixes_is st n (SubscribeManaged filter) (Reply.Sub m) f h = go (m == n) refl h
  where
    go : (b : Bool) → (m == n) ≡ b → cond b (Some (fixed_of st filter)) None ≡ Some f → Fixes st n (SubscribeManaged filter) (Reply.Sub m) f
    go true e h = record { filter = filter; asked = refl; answered = ap Reply.Sub (eqb-true m n e); kept = (let z : fixed_of st filter ≡ f = cc in z) }
    go false e h = absurd (let z : ⊥ = cc in z)
fixes_is st n (SubscribeManaged filter) _ f h = absurd (let z : ⊥ = cc in z)
fixes_is st n _ r f h = absurd (let z : ⊥ = cc in z)

sub_number : (u : UnitName) (st : OwnState) (ds : List Given) (filter : List Clause) (n : ℕ) → reply u st ds (SubscribeManaged filter) ≡ Reply.Sub n →
    st.subs ≡ n
sub_number u st ds filter n h = go (is_instance u) (nat_le most_subs st.subs) h
  where
    go : (a b : Bool) → cond a Reply.NotInManaged (cond b Reply.TooManySubs (Reply.Sub st.subs)) ≡ Reply.Sub n → st.subs ≡ n
    go true b h = absurd (let z : ⊥ = cc in z)
    go false true h = absurd (let z : ⊥ = cc in z)
    go false false h = let z : st.subs ≡ n = cc in z

-- who makes a managed subscription, and which
record Manages (r : Role) (st : OwnState) (filter : List Clause) : Type 0 where
  by : r ≡ Regulator
  first : st.subs ≡ 0
  asks : filter ≡ watched_filter
  output : st.output ≡ public

-- what is wanted is the managing call, or to wait
abbrev WantsIt : Want → List Clause → Type 0 → Type 0
WantsIt wish filter L = (wish ≡ Calls (SubscribeManaged filter)) ⊎ ((wish ≡ Wait) × (SubscribeManaged filter ≡ Get) × L)

is_call : (wish : Want) (x : Call) (filter : List Clause) (L : Type 0) → wish ≡ Calls x → WantsIt wish filter L → x ≡ SubscribeManaged filter
is_call wish x filter L h (inl e) = let y : Calls x ≡ Calls (SubscribeManaged filter) = sym h ∙ e in let z : x ≡ SubscribeManaged filter = cc in z
is_call wish x filter L h (inr e) = let y = e.1 in absurd (let z : ⊥ = cc in z)

no_call : (wish : Want) (x : Call) (filter : List Clause) (L A : Type 0) → wish ≡ Calls x → (x ≡ SubscribeManaged filter → ⊥) → WantsIt wish filter L → A
no_call wish x filter L A h other now = absurd (other (is_call wish x filter L h now))

no_wait : (filter : List Clause) (L A : Type 0) → WantsIt Wait filter L → A
no_wait filter L A (inl e) = absurd (let z : ⊥ = cc in z)
no_wait filter L A (inr e) = let y = e.1 in absurd (let z : ⊥ = cc in z)

not_read : (h : ℕ) (name : List ℕ) (filter : List Clause) → ReadPart h name ≡ SubscribeManaged filter → ⊥
not_read h name filter e = let z : ⊥ = cc in z

not_add : (h : ℕ) (d : Draft) (filter : List Clause) → AddPart h d.label d.name d.value ≡ SubscribeManaged filter → ⊥
not_add h d filter e = let z : ⊥ = cc in z

not_drop : (h : ℕ) (filter : List Clause) → DropEvent h ≡ SubscribeManaged filter → ⊥
not_drop h filter e = let z : ⊥ = cc in z

not_publish : (h : ℕ) (filter : List Clause) → Publish h ≡ SubscribeManaged filter → ⊥
not_publish h filter e = let z : ⊥ = cc in z

not_create : (filter : List Clause) → CreateEvent ≡ SubscribeManaged filter → ⊥
not_create filter e = let z : ⊥ = cc in z

opening_manages : (r : Role) (st : OwnState) (subs : List (ℕ × List Clause)) (filter : List Clause) (cs : List Call) →
    IsOpening r st subs (SubscribeManaged filter ∷ cs) → Manages r st filter
opening_manages r st subs filter cs o = record {
  by = o.openers.0;
  first = o.openers.1;
  asks = o.openers.2;
  output = ap (outed st.output) (sym o.openers.3) ∙ o.out ∙ ap out_label o.openers.0;
}

manages : (r : Role) (j : ℕ) (k : Kind) (x : Heard) (g : Stage) (u : UnitName) (st : OwnState) (subs : List (ℕ × List Clause)) (ds : List Given)
    (filter : List Clause) → role_of j k ≡ r → At r k x g u st subs → IsNow k x g st ds (SubscribeManaged filter) → Manages r st filter
manages r j k x stage.Fresh u st subs ds filter p h now = absurd h
manages r j k x (stage.Opens place) u st subs ds filter p h now =
    let m = drop_more (opening_by r) place h.0 in
    let out : slice_get (opening k) place ≡ Some m.0 = ap (λ (cs : List Call). slice_get cs place) (opening_is j k ∙ ap opening_by p) ∙ m.1 in
    let here : IsOpening r st subs (m.0 ∷ drop (place + 1) (opening_by r)) = subst (IsOpening r st subs) m.2 h.1 in
    let it = is_call (wanted_at (mind_of k x (stage.Opens place)) (stage.Opens place)) m.0 filter (left st ds ≢ []) (ap calls out) now in
    opening_manages r st subs filter (drop (place + 1) (opening_by r))
    (subst (λ (c : Call). IsOpening r st subs (c ∷ drop (place + 1) (opening_by r))) it here)
manages r j k x stage.Rests u st subs ds filter p h now = no_wait filter (left st ds ≢ []) (Manages r st filter) now
manages r j k x (stage.Reads n sub place) u st subs ds filter p h now =
    let m = drop_more (reads_of k sub) place h.0 in
    no_call (wanted_at (mind_of k x (stage.Reads n sub place)) (stage.Reads n sub place)) (ReadPart n m.0) filter (left st ds ≢ []) (Manages r st filter)
    (ap (reads n) m.1) (not_read n m.0 filter) now
manages r j k x (stage.Drops n) u st subs ds filter p h now =
    no_call (Calls (DropEvent n)) (DropEvent n) filter (left st ds ≢ []) (Manages r st filter) refl (not_drop n filter) now
manages r j k x stage.Creates u st subs ds filter p h now = no_call (Calls CreateEvent) CreateEvent filter (left st ds ≢ []) (Manages r st filter) refl
    (not_create filter) now
manages r j k x (stage.Adds n place) u st subs ds filter p h now =
    let m = drop_more (parts_of k x) place h.0 in
    no_call (wanted_at (mind_of k x (stage.Adds n place)) (stage.Adds n place)) (AddPart n m.0.label m.0.name m.0.value) filter (left st ds ≢ [])
    (Manages r st filter) (ap (adds n) m.1) (not_add n m.0 filter) now
manages r j k x (stage.Publishes n) u st subs ds filter p h now =
    no_call (Calls (Publish n)) (Publish n) filter (left st ds ≢ []) (Manages r st filter) refl (not_publish n filter) now
manages r j k x stage.Stopped u st subs ds filter p h now = no_wait filter (left st ds ≢ []) (Manages r st filter) now
manages r j k x (stage.StoppedDrops n) u st subs ds filter p h now =
    no_call (Calls (DropEvent n)) (DropEvent n) filter (left st ds ≢ []) (Manages r st filter) refl (not_drop n filter) now

-- the third root is the regulator, and no other one

abbrev NoRegulator : List Player → Type 0
NoRegulator ps = (i : ℕ) (p : Player) → slice_get ps i ≡ Some p → role p ≡ Regulator → ⊥

no_regulator_first : (p : Player) (ps : List Player) → (role p ≡ Regulator → ⊥) → NoRegulator ps → NoRegulator (p ∷ ps)
no_regulator_first p ps a h zero q e r = a (ap role (let z : p ≡ q = cc in z) ∙ r)
no_regulator_first p ps a h (suc i) q e r = h i q e r

not_trader : (j : ℕ) → Trader j ≡ Regulator → ⊥
not_trader j e = let z : ⊥ = cc in z

not_monitor : (j : ℕ) (a b : List ℕ) → Monitor j a b ≡ Regulator → ⊥
not_monitor j a b e = let z : ⊥ = cc in z

no_regulator_traders : (j : ℕ) (ts : List TraderRow) (more : List Player) → NoRegulator more → NoRegulator (trader_players j ts ++ more)
no_regulator_traders j [] more h = h
no_regulator_traders j (t ∷ ts) more h = no_regulator_first (trader_player j t) (trader_players (j + 1) ts ++ more) (not_trader j)
    (no_regulator_traders (j + 1) ts more h)

no_regulator_watching : (window j : ℕ) (ps : List PairRow) (ns : List ℕ) (more : List Player) → NoRegulator more →
    NoRegulator (watching_players window j ps ns ++ more)
no_regulator_watching window j ps [] more h = h
no_regulator_watching window j ps (n ∷ ns) more h =
    let p = get_or ps n blank in
    no_regulator_first (monitor_player window j p) (watching_players window j ps ns ++ more) (not_monitor j p.first p.second)
    (no_regulator_watching window j ps ns more h)

no_regulator_monitors : (window j : ℕ) (ps : List PairRow) (ts : List TraderRow) → NoRegulator (monitor_players window j ps ts)
no_regulator_monitors window j ps [] = λ i p e r. let z : ⊥ = cc in z
no_regulator_monitors window j ps (t ∷ ts) = no_regulator_watching window j ps t.pairs (monitor_players window (j + 1) ps ts)
    (no_regulator_monitors window (j + 1) ps ts)

regulator_at : (c : Config) (ticks : List Tick) (i : ℕ) (p : Player) → slice_get (players c ticks) i ≡ Some p → role p ≡ Regulator → i ≡ 2
regulator_at c ticks zero p e r = let z : exchange ticks ≡ p = cc in let y : Exchange ≡ Regulator = ap role z ∙ r in absurd (let z : ⊥ = cc in z)
regulator_at c ticks (suc zero) p e r = let z : broker (length c.traders) ≡ p = cc in let y : Broker ≡ Regulator =
    ap role z ∙ r in absurd (let z : ⊥ = cc in z)
regulator_at c ticks (suc (suc zero)) p e r = refl
regulator_at c ticks (suc (suc (suc i))) p e r = absurd (no_regulator_traders 0 c.traders (monitor_players c.window 0 c.pairs c.traders)
    (no_regulator_monitors c.window 0 c.pairs c.traders) i p e r)

watched_record : (st : OwnState) (filter : List Clause) → filter ≡ watched_filter → st.input ≡ public → st.output ≡ public → IsWatched (fixed_of st filter)
watched_record st filter same input output = record {
  filter = same;
  base = ap (λ (l : Label). union l.s st.output.s) input ∙ ap (λ (l : Label). union [] l.s) output;
  input_integrity = ap (λ (l : Label). l.i) input;
  output_integrity = ap (λ (l : Label). meet l.i st.output.i) input;
}

root_number : (i : ℕ) (o : List ℕ) → Root (i ∷ []) ≡ Root o → i ≡ 2 → o ≡ 2 ∷ []
root_number i o e two = let z : i ∷ [] ≡ o = cc in sym z ∙ ap (λ (n : ℕ). n ∷ []) two

pub fixed_step : (c : Config) (ticks : List Tick) → IsConfig c → (past : List Entry) (v : Member) → In v (members c ticks) → Inv (first_states c) past v →
    FixedOk (first_states c) past → (call : Call) (r : Reply) (f : Effect) → Acts no_weight (first_states c) past v call r f →
    FixedOk (first_states c) (Done v.name call r f ∷ past)
fixed_step c ticks form past v i inv ok call r f acts o n fx = go (fixed rows (first_states c) past o n) refl (same v.name (Root o)) refl
  where
    made : same v.name (Root o) ≡ true → option_and_then (λ st. fixes st n call r) (own_plain rows (first_states c) past o) ≡ Some fx →
        (o ≡ 2 ∷ []) × (n ≡ 0) × IsWatched fx
    made is h =
        let s = first_states c in
        let st = acts.st in
        let ds = deliveries rows s past v.name in
        let subs = subscriptions rows s past v.name in
        let root : v.name ≡ Root o = same_name-exact v.name (Root o) is in
        let here : own_plain rows s past o ≡ Some st = subst (λ (m : UnitName). own rows s past m ≡ Some st) root acts.own_is in
        let fix : fixes st n call r ≡ Some fx = subst (λ (x : Option OwnState). option_and_then (λ st. fixes st n call r) x ≡ Some fx) here h in
        let k = fixes_is st n call r fx fix in
        let b = the_mind v past in
        let now : IsNow b.kind b.heard b.stage st ds (SubscribeManaged k.filter) = subst (IsNow b.kind b.heard b.stage st ds) k.asked acts.now in
        let m = manages (plays v) v.player.number b.kind b.heard b.stage v.name st subs ds k.filter inv.kind_is acts.lives.2 now in
        let got : reply v.name st (left st ds) (SubscribeManaged k.filter) ≡ Reply.Sub n =
        subst (λ (x : Call). reply v.name st (left st ds) x ≡ Reply.Sub n) k.asked (acts.replies ∙ k.answered) in
        let first : n ≡ 0 = sym (sub_number v.name st (left st ds) k.filter n got) ∙ m.first in
        let two : o ≡ 2 ∷ [] = elim (member_kind c ticks v i) [
          | inl h ↦ root_number h.0 o (sym h.1 ∙ root) (regulator_at c ticks h.0 v.player h.2 m.by)
          | inr w ↦ let y : Root o ≡ watcher.name = sym root ∙ ap (λ (m : Member). m.name) w in absurd (let z : ⊥ = cc in z)
        ] in
        let input : st.input ≡ public = acts.lives.0 ∙ ap label_of m.by in
        (two, first, subst IsWatched k.kept (watched_record st k.filter m.asks input m.output))

    go : (x : Option Fixed) → fixed rows (first_states c) past o n ≡ x → (b : Bool) → same v.name (Root o) ≡ b →
        option_or x (cond b (option_and_then (λ st. fixes st n call r) (own_plain rows (first_states c) past o)) None) ≡ Some fx →
        (o ≡ 2 ∷ []) × (n ≡ 0) × IsWatched fx
    go (Some x) e b is h = ok o n fx (e ∙ h)
    go None e true is h = made is h
    go None e false is h = absurd (let z : ⊥ = cc in z)

-- the regulator's instance

pub instances_step : (s : List OwnState) (past : List Entry) → FixedOk s past → InstancesOk s past →
    (a : UnitName) (c : Call) (r : Reply) (f : Effect) (ro : Role) → IsFresh past a ro f → InstancesOk s (Done a c r f ∷ past)
instances_step s past ok insts a c r f ro fresh o n t st = go (stepped rows (Managed o n t) (Done a c r f) (own_instance rows s past o n t)) refl
  where
    tags : (x : Fixed) (k : Commit) → IsWatched x → f ≡ Effect.Commit k → is_given (Some x) t past (Some k) ≡ true → t ≡ watcher_tags
    tags x k w e h =
        let fr : IsFresh past a ro (Effect.Commit k) = subst (IsFresh past a ro) e fresh in
        let g = sym (is_given_watched x w t past k (published_parts ro fr.2.0) fr.0 fr.2.2) ∙ h in
        given_tags ro fr.2.0 t fr.2.1 g

    go : (x : Option OwnState) → stepped rows (Managed o n t) (Done a c r f) (own_instance rows s past o n t) ≡ x →
        option_or x (born rows (fixed rows s past o n) t past (commit_in f)) ≡ Some st → (o ≡ 2 ∷ []) × (n ≡ 0) × (t ≡ watcher_tags)
    go (Some x) e h = let w = stepped_was (Managed o n t) (Done a c r f) (own_instance rows s past o n t) x e in insts o n t w.0 w.1
    go None e h =
        let b = born_is (fixed rows s past o n) t past f st h in
        let k = ok o n b.kept b.kept_is in
        (k.0, k.1, tags b.kept b.commit k.2 b.commits b.chosen)

-- no unit makes a unit

wants_no_child : (m : Mind) (last : _) (c : Call) (L : Type 0) →
    (((floor_brain).next m last).0 ≡ Calls c) ⊎ ((((floor_brain).next m last).0 ≡ Wait) × (c ≡ Get) × L) → makes_child c ≡ false
wants_no_child m last c L (inl e) = ap is_child_wanted (sym e) ∙ makes_no_unit m last
wants_no_child m last c L (inr e) = ap makes_child e.1

pub roots_step : (c : Config) (ticks : List Tick) (past : List Entry) → RootsAlone (first_states c) past →
    (a : UnitName) (call : Call) (r : Reply) (f : Effect) → Does c ticks past a call r f → RootsAlone (first_states c) (Done a call r f ∷ past)
roots_step c ticks past alone a call r f does path st h =
    elim (or_is (stepped rows (Root path) (Done a call r f) (own_plain rows (first_states c) past path))
    (made_by rows (Done a call r f) path (own_plain rows (first_states c) past (maker_of path))) st h) [
      | inl e ↦ let w = stepped_was (Root path) (Done a call r f) (own_plain rows (first_states c) past path) st e in alone path w.0 w.1
      | inr e ↦ absurd (go (same a (Root (maker_of path))) (own_plain rows (first_states c) past (maker_of path)) e.1)
    ]
  where
    none : makes_child call ≡ false
    none =
        let x = does.follows.1 in
        let w = does.follows.2 in
        wants_no_child (state_after floor_brain x (replies_of a past)) (last_of (replies_of a past)) call
        (left does.follows.0 (deliveries rows (first_states c) past a) ≢ []) w.call

    made : (maker : OwnState) → makes maker (number_of path) call r ≡ Some st → ⊥
    made maker e =
        let m = makes_is maker (number_of path) call r st e in
        let y : true ≡ false = ap makes_child (sym m.2) ∙ none in
        true≢false y

    go : (b : Bool) (maker : Option OwnState) → cond b (option_and_then (λ st. makes st (number_of path) call r) maker) None ≡ Some st → ⊥
    go true (Some maker) e = made maker e
    go true None e = let z : ⊥ = cc in z
    go false maker e = let z : ⊥ = cc in z
