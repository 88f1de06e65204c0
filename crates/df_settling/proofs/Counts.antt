-- Each unit of the floor keeps to the count of its kind.
use Rattle.df_settling.proofs.Names.{◌≡◌, ℕ, zero, suc, ◌+◌, ◌-◌, ◌*◌, ◌≤◌, ◌<◌, List, [], ◌∷◌, ◌++◌, Bool, true, false, true≢false, refl, sym, ◌∙◌, ap, subst, cond, Option, Some, None, length, arith, ne_eqb, ◌==◌, slice_get, flat_map, IsConfig, Config, PairRow, TraderRow, Clause, commit_in, deliveries, deliveries_plain, plain_news, Follows, IsUnaided, Legal, own_plain, rows, subscriptions, apply, cut, Tick, same, OwnState, is_nil, Call, Commit, Given, Effect, Entry, Done, Emitted, UnitName, Root, Reply, floor_brains, KeepCounts, entries_of, fill_count, handed_to, match_count, root_name, trader_entries, IsFloorJournal, first_states, floor_brain, monitor_count}
use Rattle.df_settling.proofs.Bound.{World, actor_member, cost_of, first_pot, member_step, world}
use Rattle.df_settling.proofs.Entries.{no_weight}
use Rattle.df_settling.proofs.Members.{Inv, Lives, Member, deliveries_grow, members, news, plays, pot, root_member, the_mind, watcher, watcher_member}
use Rattle.df_settling.proofs.Others.{others}
use Rattle.df_settling.proofs.Players.{Player, exchange, monitor_player, monitor_players, players, regulator, role, trader_player, trader_players, watching_players}
use Rattle.df_settling.proofs.Roles.{Trader}
use Rattle.df_settling.proofs.Sales.{broker_keeps, trades_keep}
use Rattle.df_settling.proofs.Settles.{Does, actor_moves, fresh_commit}
use Rattle.df_settling.proofs.Totals.{In, times_suc, total, total-append}
use Rattle.df_settling.proofs.Unit.{paid, price, priced, subs_of}

-- a unit's entries, and what it may still do, are at most its opening and what it was handed
abbrev pub IsCounted : Config → List Entry → Member → Type 0
IsCounted c past v = entries_of v.name past + pot no_weight (first_states c) past v
    ≤ cost_of no_weight v.player + priced no_weight (plays v) (deliveries rows (first_states c) past v.name)

count_actor : (n p q d x y k : ℕ) (b : Bool) → b ≡ true → n + q ≤ k + d → p + cond b (1 + y) 0 ≤ q + x → suc n + p ≤ k + (d + x)
count_actor n p q d x y k false e h m = absurd (true≢false (sym e))
count_actor n p q d x y k true e h m = omega arith

count_other : (n p q d x y k : ℕ) → n + q ≤ k + d → p + y ≤ q + x → n + p ≤ k + (d + x)
count_other n p q d x y k h m = omega arith

count_step : (c : Config) (ticks : List Tick) → IsConfig c → (past : List Entry) → World c ticks past → (u : Member) → In u (members c ticks) →
    (call : Call) (r : Reply) (f : Effect) → Does c ticks past u.name call r f →
    (v : Member) → In v (members c ticks) → IsCounted c past v → IsCounted c (Done u.name call r f ∷ past) v
count_step c ticks form past world u iu call r f does v iv h =
    let s = first_states c in
    let inv = world.inv u iu in
    let acts = actor_moves no_weight c ticks form past u iu inv call r f does in
    let fresh = fresh_commit s past u inv acts.st acts.own_is f acts.moves.fine in
    let k = (member_step no_weight c ticks form past world u iu call r f does fresh v iv).cost in
    let e = ap (priced no_weight (plays v)) (deliveries_grow s (Done u.name call r f) past v.name)
    ∙ total-append (λ (d : Given). price no_weight (plays v) d.sub) (deliveries rows s past v.name) (news s past v.name (commit_in f)) in
    subst (λ (x : ℕ). entries_of v.name (Done u.name call r f ∷ past) + pot no_weight s (Done u.name call r f ∷ past) v ≤ cost_of no_weight v.player + x)
    (sym e) (go (same u.name v.name) refl k)
  where
    before : ℕ
    before = pot no_weight (first_states c) past v

    behind : ℕ
    behind = pot no_weight (first_states c) (Done u.name call r f ∷ past) v

    had : ℕ
    had = priced no_weight (plays v) (deliveries rows (first_states c) past v.name)

    got : ℕ
    got = priced no_weight (plays v) (news (first_states c) past v.name (commit_in f))

    go : (b : Bool) → same u.name v.name ≡ b → pot no_weight (first_states c) (Done u.name call r f ∷ past) v + cond (same u.name v.name)
        (1 + paid (no_weight (plays v)) f) 0 ≤ pot no_weight (first_states c) past v + priced no_weight (plays v)
        (news (first_states c) past v.name (commit_in f)) →
        cond b (suc (entries_of v.name past)) (entries_of v.name past) + pot no_weight (first_states c) (Done u.name call r f ∷ past) v
        ≤ cost_of no_weight v.player + (priced no_weight (plays v) (deliveries rows (first_states c) past v.name) + priced no_weight (plays v)
        (news (first_states c) past v.name (commit_in f)))
    go true e k = count_actor (entries_of v.name past) behind before had got (paid (no_weight (plays v)) f) (cost_of no_weight v.player) (same u.name v.name)
        e h k
    go false e k = count_other (entries_of v.name past) behind before had got (cond (same u.name v.name) (1 + paid (no_weight (plays v)) f) 0)
        (cost_of no_weight v.player) h k

counted : (c : Config) (ticks : List Tick) → IsConfig c → (past : List Entry) → Legal rows (first_states c) past → IsUnaided past →
    Follows floor_brain rows (first_states c) (floor_brains c ticks) past → (v : Member) → In v (members c ticks) → IsCounted c past v
counted c ticks form [] legal unaided follows v iv = let k = first_pot no_weight c v in omega arith
counted c ticks form (Emitted k ∷ past) legal unaided follows v iv = absurd unaided.1
counted c ticks form (Done a call r f ∷ past) legal unaided follows v iv =
    let w = world c ticks form past legal.0 unaided.0 follows.0 in
    let does : Does c ticks past a call r f = record { right = legal.1; follows = follows.1 } in
    let m = actor_member c ticks past w a follows.1.0 follows.1.2.own in
    let h = counted c ticks form past legal.0 unaided.0 follows.0 v iv in
    subst (λ (n : UnitName). IsCounted c (Done n call r f ∷ past) v) m.1
    (count_step c ticks form past w m.0 m.2 call r f (subst (λ (n : UnitName). Does c ticks past n call r f) (sym m.1) does) v iv h)

-- a root that asks for nothing is handed nothing

none_before : (xs ys : List (ℕ × List Clause)) → xs ++ ys ≡ [] → xs ≡ []
none_before [] ys e = refl
none_before (x ∷ xs) ys e = absurd (let z : ⊥ = cc in z)

no_news_asked : (o : Option OwnState) (subs : List (ℕ × List Clause)) (ds : List Given) (past : List Entry) (oc : Option Commit) → subs ≡ [] →
    plain_news o subs ds past oc ≡ []
no_news_asked None subs ds past oc e = refl
no_news_asked (Some st) subs ds past None e = refl
no_news_asked (Some st) subs ds past (Some k) e = ap (λ (xs : List (ℕ × List Clause)). plain_news (Some st) xs ds past (Some k)) e
    ∙ go (is_nil (cut st.input k.edit.1))
  where
    go : (b : Bool) → cond b [] (flat_map (λ sub. Rattle.df_rules.specs.Deliveries.offer ds k.event
        (cut st.input (apply k.edit (Rattle.df_rules.specs.Commits.contents past k.event))) sub) []) ≡ []
    go true = refl
    go false = refl

asks_nothing : (s : List OwnState) (past : List Entry) (v : Member) → Inv s past v → subs_of (plays v) ≡ [] → subscriptions rows s past v.name ≡ []
asks_nothing s past v inv none = go inv.state inv.lives
  where
    go : (o : Option OwnState) → Lives v (the_mind v past) past (subscriptions rows s past v.name) o → subscriptions rows s past v.name ≡ []
    go None l = l.2
    go (Some st) l = none_before (subscriptions rows s past v.name) l.1.0 (l.1.1 ∙ none)

handed_nothing : (c : Config) (ticks : List Tick) → IsConfig c → (past : List Entry) → Legal rows (first_states c) past → IsUnaided past →
    Follows floor_brain rows (first_states c) (floor_brains c ticks) past →
    (v : Member) → In v (members c ticks) → (path : List ℕ) → v.name ≡ Root path → subs_of (plays v) ≡ [] →
    deliveries_plain rows (first_states c) past path ≡ []
handed_nothing c ticks form [] legal unaided follows v iv path n none = refl
handed_nothing c ticks form (Emitted k ∷ past) legal unaided follows v iv path n none = absurd unaided.1
handed_nothing c ticks form (Done a call r f ∷ past) legal unaided follows v iv path n none =
    let s = first_states c in
    let w = world c ticks form past legal.0 unaided.0 follows.0 in
    let before = handed_nothing c ticks form past legal.0 unaided.0 follows.0 v iv path n none in
    let subs : subscriptions rows s past (Root path) ≡ [] = subst (λ (m : UnitName). subscriptions rows s past m ≡ []) n
    (asks_nothing s past v (w.inv v iv) none) in
    ap (λ (ds : List Given). ds ++ plain_news (own_plain rows s past path) (subscriptions rows s past (Root path)) (deliveries_plain rows s past path) past
    (commit_in f)) before
    ∙ no_news_asked (own_plain rows s past path) (subscriptions rows s past (Root path)) (deliveries_plain rows s past path) past (commit_in f) subs

-- counts by kind

all_alike : (x : ℕ) (ds : List Given) → total (λ (d : Given). x) ds ≡ x * length ds
all_alike x [] = omega arith
all_alike x (d ∷ ds) = let e = all_alike x ds in let m = times_suc x (length ds) in omega arith

by_subscription : (j : ℕ) (ds : List Given) → priced no_weight (Trader j) ds ≡ 9 * match_count ds + 3 * fill_count ds
by_subscription j [] = omega arith
by_subscription j (d ∷ ds) = go d.sub (by_subscription j ds)
  where
    go : (sub : ℕ) → priced no_weight (Trader j) ds ≡ 9 * match_count ds + 3 * fill_count ds →
        price no_weight (Trader j) sub + priced no_weight (Trader j) ds
        ≡ 9 * cond (sub == 0) (suc (match_count ds)) (match_count ds) + 3 * cond (sub == 0) (fill_count ds) (suc (fill_count ds))
    go zero h = let e = times_suc 9 (match_count ds) in omega arith
    go (suc sub) h =
        let n : (suc sub == 0) ≡ false = ne_eqb (suc sub) 0 (λ e. omega arith) in
        let e = times_suc 3 (fill_count ds) in
        subst (λ (b : Bool). price no_weight (Trader j) (suc sub) + priced no_weight (Trader j) ds
        ≡ 9 * cond b (suc (match_count ds)) (match_count ds) + 3 * cond b (fill_count ds) (suc (fill_count ds)))
        (sym n) (omega arith)

-- a root by its place
at_place : (c : Config) (ticks : List Tick) → IsConfig c → (past : List Entry) → IsFloorJournal c ticks past → (i : ℕ) (p : Player) →
    slice_get (players c ticks) i ≡ Some p →
    entries_of (root_name i) past ≤ cost_of no_weight p + priced no_weight (role p) (deliveries rows (first_states c) past (root_name i))
at_place c ticks form past j i p e =
    let m = root_member c ticks i p e in
    let k = counted c ticks form past j.legal j.unaided j.follows m.0 m.3 in
    let n : entries_of (root_name i) past + pot no_weight (first_states c) past m.0
    ≤ cost_of no_weight m.0.player + priced no_weight (plays m.0) (deliveries rows (first_states c) past (root_name i))
    = subst (λ (u : UnitName). entries_of u past + pot no_weight (first_states c) past m.0
    ≤ cost_of no_weight m.0.player + priced no_weight (plays m.0) (deliveries rows (first_states c) past u)) m.1 k in
    let q : entries_of (root_name i) past + pot no_weight (first_states c) past m.0
    ≤ cost_of no_weight p + priced no_weight (role p) (deliveries rows (first_states c) past (root_name i))
    = subst (λ (q : Player). entries_of (root_name i) past + pot no_weight (first_states c) past m.0
    ≤ cost_of no_weight q + priced no_weight (role q) (deliveries rows (first_states c) past (root_name i))) m.2 n in
    omega arith

silent_at : (c : Config) (ticks : List Tick) → IsConfig c → (past : List Entry) → IsFloorJournal c ticks past → (i : ℕ) (p : Player) →
    slice_get (players c ticks) i ≡ Some p → subs_of (role p) ≡ [] →
    entries_of (root_name i) past ≤ cost_of no_weight p
silent_at c ticks form past j i p e none =
    let k = at_place c ticks form past j i p e in
    let m = root_member c ticks i p e in
    let h = handed_nothing c ticks form past j.legal j.unaided j.follows m.0 m.3 (i ∷ []) m.1 (ap (λ (q : Player). subs_of (role q)) m.2 ∙ none) in
    let z = ap (priced no_weight (role p)) h in
    omega arith

-- where traders and monitors stand

trader_at : (j : ℕ) (ts : List TraderRow) (more : List Player) (i : ℕ) → i < length ts →
    (t : TraderRow) × (slice_get (trader_players j ts ++ more) i ≡ Some (trader_player (j + i) t))
trader_at j [] more i l = absurd (omega arith)
trader_at j (t ∷ ts) more zero l = (t, ap (λ (n : ℕ). Some (trader_player n t)) (omega arith))
trader_at j (t ∷ ts) more (suc i) l =
    let h = trader_at (j + 1) ts more i (omega arith) in
    let e : (j + 1) + i ≡ j + suc i = omega arith in
    (h.0, h.1 ∙ ap (λ (n : ℕ). Some (trader_player n h.0)) e)

behind_traders : (j : ℕ) (ts : List TraderRow) (more : List Player) (i : ℕ) → slice_get (trader_players j ts ++ more) (length ts + i) ≡ slice_get more i
behind_traders j [] more i = ap (slice_get more) (omega arith)
behind_traders j (t ∷ ts) more i =
    let e : suc (length ts) + i ≡ suc (length ts + i) = omega arith in
    ap (slice_get (trader_player j t ∷ trader_players (j + 1) ts ++ more)) e ∙ behind_traders (j + 1) ts more i

-- a monitor, whosever
record IsMonitor (p : Player) : Type 0 where
  number : ℕ
  row : PairRow
  window : ℕ
  is : p ≡ monitor_player window number row

record MonitorAt (ps : List Player) (i : ℕ) : Type 0 where
  player : Player
  there : slice_get ps i ≡ Some player
  monitor : IsMonitor player

watching_at : (window j : ℕ) (ps : List PairRow) (ns : List ℕ) (more : List Player) (i : ℕ) →
    (length ns ≤ i → (k : ℕ) → i ≡ length ns + k → MonitorAt more k) → MonitorAt (watching_players window j ps ns ++ more) i
watching_at window j ps [] more i h = h (omega arith) i (omega arith)
watching_at window j ps (n ∷ ns) more zero h = record { player = _; there = refl; monitor = record { number = j; row = _; window = window; is = refl } }
watching_at window j ps (n ∷ ns) more (suc i) h =
    let again = watching_at window j ps ns more i (λ l k e. h (omega arith) k (omega arith)) in
    record { player = again.player; there = again.there; monitor = again.monitor }

monitor_at : (window j : ℕ) (ps : List PairRow) (ts : List TraderRow) (i : ℕ) → i < monitor_count ts → MonitorAt (monitor_players window j ps ts) i
monitor_at window j ps [] i l = absurd (omega arith)
monitor_at window j ps (t ∷ ts) i l = watching_at window j ps t.pairs (monitor_players window (j + 1) ps ts) i
    (λ far k e. monitor_at window (j + 1) ps ts k (omega arith))

trader_keeps : (c : Config) (ticks : List Tick) → IsConfig c → (past : List Entry) → IsFloorJournal c ticks past → (j : ℕ) → j < length c.traders →
    entries_of (root_name (3 + j)) past ≤ trader_entries (handed_to c past (root_name (3 + j)))
trader_keeps c ticks form past h j l =
    let t = trader_at 0 c.traders (monitor_players c.window 0 c.pairs c.traders) j l in
    let n : 3 + j ≡ suc (suc (suc j)) = omega arith in
    let z : 0 + j ≡ j = omega arith in
    let e : slice_get (players c ticks) (3 + j) ≡ Some (trader_player j t.0) =
    ap (slice_get (players c ticks)) n ∙ t.1 ∙ ap (λ (i : ℕ). Some (trader_player i t.0)) z in
    let k = at_place c ticks form past h (3 + j) (trader_player j t.0) e in
    let b = by_subscription j (deliveries rows (first_states c) past (root_name (3 + j))) in
    omega arith

monitor_keeps : (c : Config) (ticks : List Tick) → IsConfig c → (past : List Entry) → IsFloorJournal c ticks past → (i : ℕ) → i < monitor_count c.traders →
    entries_of (root_name (3 + length c.traders + i)) past ≤ 2 + 6 * length (handed_to c past (root_name (3 + length c.traders + i)))
monitor_keeps c ticks form past h i l =
    let m = monitor_at c.window 0 c.pairs c.traders i l in
    let place = 3 + length c.traders + i in
    let n : 3 + length c.traders + i ≡ suc (suc (suc (length c.traders + i))) = omega arith in
    let is = m.monitor in
    let p = monitor_player is.window is.number is.row in
    let e : slice_get (players c ticks) (3 + length c.traders + i) ≡ Some (monitor_player is.window is.number is.row)
    = ap (slice_get (players c ticks)) n ∙ behind_traders 0 c.traders (monitor_players c.window 0 c.pairs c.traders) i ∙ m.there
    ∙ ap (λ (q : Player). Some q) is.is in
    let k = at_place c ticks form past h (3 + length c.traders + i) (monitor_player is.window is.number is.row) e in
    let b = all_alike 6 (deliveries rows (first_states c) past (root_name (3 + length c.traders + i))) in
    omega arith

exchange_cost : (n : ℕ) → 0 + (n - 0 + 0) * (2 + 1 + 0) ≤ 3 * n
exchange_cost n = omega arith

pub keep_counts : (c : Config) (ticks : List Tick) (past : List Entry) → IsConfig c → IsFloorJournal c ticks past → KeepCounts c ticks past
keep_counts c ticks past form j = record {
  exchange = let k = silent_at c ticks form past j 0 (exchange ticks) refl refl in let e = exchange_cost (length ticks) in omega arith;
  broker = let k = broker_keeps c ticks form past j in omega arith;
  trades = let k = trades_keep c ticks form past j in omega arith;
  regulator = let k = silent_at c ticks form past j 2 regulator refl refl in omega arith;
  traders = trader_keeps c ticks form past j;
  monitors = monitor_keeps c ticks form past j;
  instance = let k = counted c ticks form past j.legal j.unaided j.follows watcher (watcher_member c ticks) in let b =
      all_alike 7 (deliveries rows (first_states c) past watcher.name) in omega arith;
  others = others c ticks form past j.legal j.unaided j.follows;
}
