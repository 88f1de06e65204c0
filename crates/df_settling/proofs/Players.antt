-- The units of a floor: what each of them is, in the order of the roots.
use Rattle.df_settling.proofs.Names.{◌≡◌, inl, inr, ℕ, suc, ◌+◌, ◌*◌, ◌≤◌, ◌<◌, List, [], ◌∷◌, ◌++◌, refl, sym, ◌∙◌, ap, subst, Option, length, map, get_or, arith, pos, All, map-append, slice_get-get_or, IsConfig, IsPair, IsTrader, Config, PairRow, TraderRow, broker_tag, endorsed, public, regulator_tag, secret, RootStart, Tick, floor_brains, floor_start, monitor_root, plain_root, releasing_root, trader_root, number_of, Mind, begins, Kind, monitor_count}
use Rattle.df_pairs.specs.Divergence.{fresh}
use Rattle.df_floor.specs.Brains as brains
use Rattle.df_floor.specs.Starting as starting
use Rattle.df_floor_units.specs.declared.kind.Kind.TheVariants as kind
use Rattle.df_settling.proofs.Roles.{Apart, Broker, Exchange, Monitor, Regulator, Role, Trader, Watcher, role_of}
use Rattle.df_settling.proofs.Totals.{In, times_add, times_suc, total, total-append}

-- what a unit is, and for a monitor whose it is
pub record Player : Type 0 where
  pub number : ℕ
  pub kind : Kind

abbrev pub role : Player → Role
role p = role_of p.number p.kind

abbrev pub trader_player : ℕ → TraderRow → Player
trader_player j t = record {
  number = 0;
  kind = kind.Trader (record {
    number = j;
    quantity = t.quantity;
    slack = number_of t.slack;
    contrary = t.contrary;
    next_order = pos 0;
  });
}

abbrev pub trader_players : ℕ → List TraderRow → List Player
trader_players j [] = []
trader_players j (t ∷ ts) = trader_player j t ∷ trader_players (j + 1) ts

abbrev pub monitor_player : ℕ → ℕ → PairRow → Player
monitor_player window j p = record { number = j; kind = kind.Monitor p.first p.second (fresh window p.threshold) }

abbrev pub blank : PairRow
blank = record { first = []; second = []; threshold = pos 0 }

abbrev pub watching_players : ℕ → ℕ → List PairRow → List ℕ → List Player
watching_players window j ps [] = []
watching_players window j ps (n ∷ ns) = monitor_player window j (get_or ps n blank) ∷ watching_players window j ps ns

abbrev pub monitor_players : ℕ → ℕ → List PairRow → List TraderRow → List Player
monitor_players window j ps [] = []
monitor_players window j ps (t ∷ ts) = watching_players window j ps t.pairs ++ monitor_players window (j + 1) ps ts

abbrev pub exchange : List Tick → Player
exchange ticks = record { number = 0; kind = kind.Exchange ticks 0 }

abbrev pub broker : ℕ → Player
broker traders = record { number = 0; kind = kind.Broker (record { book = []; traders = traders; next_trade = pos 0 }) }

abbrev pub regulator : Player
regulator = record { number = 0; kind = kind.Regulator }

abbrev pub players : Config → List Tick → List Player
players c ticks = exchange ticks ∷ broker (length c.traders) ∷ regulator ∷ trader_players 0 c.traders ++ monitor_players c.window 0 c.pairs c.traders

-- their step functions

abbrev pub began : Player → Mind
began p = begins p.kind

traders_think : (j : ℕ) (ts : List TraderRow) → brains.trader_brains j ts ≡ map began (trader_players j ts)
traders_think j [] = refl
traders_think j (t ∷ ts) = ap (λ (ms : List Mind). brains.trader_brain j t ∷ ms) (traders_think (j + 1) ts)

watching_think : (window j : ℕ) (ps : List PairRow) (ns : List ℕ) → All (λ n. n < length ps) ns →
    brains.monitors_of window ps ns ≡ map began (watching_players window j ps ns)
watching_think window j ps [] h = refl
watching_think window j ps (n ∷ ns) h =
    let below : n < length ps = h 0 n (omega arith) in
    ap (λ (o : Option PairRow). brains.watched window o ++ brains.monitors_of window ps ns) (slice_get-get_or ps n blank below)
    ∙ ap (λ (ms : List Mind). began (monitor_player window j (get_or ps n blank)) ∷ ms) (watching_think window j ps ns (λ k d l. h (suc k) d (omega arith)))

monitors_think : (window j : ℕ) (ps : List PairRow) (ts : List TraderRow) → All (IsTrader (length ps)) ts →
    brains.monitor_brains window ps ts ≡ map began (monitor_players window j ps ts)
monitors_think window j ps [] h = refl
monitors_think window j ps (t ∷ ts) h =
    let first : IsTrader (length ps) t = h 0 t (omega arith) in
    ap (λ (ms : List Mind). ms ++ brains.monitor_brains window ps ts) (watching_think window j ps t.pairs first.pairs.below)
    ∙ ap (λ (ms : List Mind). map began (watching_players window j ps t.pairs) ++ ms)
    (monitors_think window (j + 1) ps ts (λ k d l. h (suc k) d (omega arith)))
    ∙ sym (map-append began (watching_players window j ps t.pairs) (monitor_players window (j + 1) ps ts))

pub all_think : (c : Config) (ticks : List Tick) → IsConfig c → floor_brains c ticks ≡ map began (players c ticks)
all_think c ticks i =
    ap (λ (ms : List Mind). began (exchange ticks) ∷ began (broker (length c.traders)) ∷ began regulator ∷ ms)
    (ap (λ (ms : List Mind). ms ++ brains.monitor_brains c.window c.pairs c.traders) (traders_think 0 c.traders)
    ∙ ap (λ (ms : List Mind). map began (trader_players 0 c.traders) ++ ms) (monitors_think c.window 0 c.pairs c.traders i.traders.each)
    ∙ sym (map-append began (trader_players 0 c.traders) (monitor_players c.window 0 c.pairs c.traders)))

-- what they begin with

abbrev pub root_by : Role → RootStart
root_by Exchange = plain_root endorsed
root_by Broker = releasing_root (secret broker_tag) broker_tag
root_by Regulator = releasing_root public regulator_tag
root_by (Trader j) = trader_root j
root_by (Monitor j a b) = monitor_root j
root_by Watcher = plain_root (secret regulator_tag)

abbrev pub rooted : Player → RootStart
rooted p = root_by (role p)

traders_begin : (j : ℕ) (ts : List TraderRow) → starting.trader_roots j ts ≡ map rooted (trader_players j ts)
traders_begin j [] = refl
traders_begin j (t ∷ ts) = ap (λ (rs : List RootStart). trader_root j ∷ rs) (traders_begin (j + 1) ts)

watching_begin : (window j : ℕ) (ps : List PairRow) (ns : List ℕ) → starting.monitors_of j ns ≡ map rooted (watching_players window j ps ns)
watching_begin window j ps [] = refl
watching_begin window j ps (n ∷ ns) = ap (λ (rs : List RootStart). monitor_root j ∷ rs) (watching_begin window j ps ns)

monitors_begin : (window j : ℕ) (ps : List PairRow) (ts : List TraderRow) → starting.monitor_roots j ts ≡ map rooted (monitor_players window j ps ts)
monitors_begin window j ps [] = refl
monitors_begin window j ps (t ∷ ts) =
    ap (λ (rs : List RootStart). rs ++ starting.monitor_roots (j + 1) ts) (watching_begin window j ps t.pairs)
    ∙ ap (λ (rs : List RootStart). map rooted (watching_players window j ps t.pairs) ++ rs) (monitors_begin window (j + 1) ps ts)
    ∙ sym (map-append rooted (watching_players window j ps t.pairs) (monitor_players window (j + 1) ps ts))

pub all_begin : (c : Config) (ticks : List Tick) → floor_start c ≡ map rooted (players c ticks)
all_begin c ticks =
    ap (λ (rs : List RootStart). rooted (exchange ticks) ∷ rooted (broker (length c.traders)) ∷ rooted regulator ∷ rs)
    (ap (λ (rs : List RootStart). rs ++ starting.monitor_roots 0 c.traders) (traders_begin 0 c.traders)
    ∙ ap (λ (rs : List RootStart). map rooted (trader_players 0 c.traders) ++ rs) (monitors_begin c.window 0 c.pairs c.traders)
    ∙ sym (map-append rooted (trader_players 0 c.traders) (monitor_players c.window 0 c.pairs c.traders)))

-- the two symbols of each monitor differ, and no root is an instance

apart_first : (p : Player) (more : List Player) (q : Player) → Apart (role p) → (In q more → Apart (role q)) → In q (p ∷ more) → Apart (role q)
apart_first p more q a h (inl e) = subst (λ (x : Player). Apart (role x)) (sym e) a
apart_first p more q a h (inr i) = h i

traders_apart : (j : ℕ) (ts : List TraderRow) (more : List Player) (q : Player) → (In q more → Apart (role q)) → In q (trader_players j ts ++ more) →
    Apart (role q)
traders_apart j [] more q h i = h i
traders_apart j (t ∷ ts) more q h i = apart_first (trader_player j t) (trader_players (j + 1) ts ++ more) q tt (traders_apart (j + 1) ts more q h) i

watching_apart : (window j : ℕ) (ps : List PairRow) → All IsPair ps → (ns : List ℕ) (more : List Player) (q : Player) → All (λ n. n < length ps) ns →
    (In q more → Apart (role q)) → In q (watching_players window j ps ns ++ more) → Apart (role q)
watching_apart window j ps pairs [] more q below h i = h i
watching_apart window j ps pairs (n ∷ ns) more q below h i =
    let l : n < length ps = below 0 n (omega arith) in
    apart_first (monitor_player window j (get_or ps n blank)) (watching_players window j ps ns ++ more) q (pairs n blank l).different
    (watching_apart window j ps pairs ns more q (λ k d l. below (suc k) d (omega arith)) h) i

monitors_apart : (window j : ℕ) (ps : List PairRow) → All IsPair ps → (ts : List TraderRow) (q : Player) → All (IsTrader (length ps)) ts →
    In q (monitor_players window j ps ts) → Apart (role q)
monitors_apart window j ps pairs [] q h i = absurd i
monitors_apart window j ps pairs (t ∷ ts) q h i =
    let first : IsTrader (length ps) t = h 0 t (omega arith) in
    watching_apart window j ps pairs t.pairs (monitor_players window (j + 1) ps ts) q first.pairs.below
    (monitors_apart window (j + 1) ps pairs ts q (λ k d l. h (suc k) d (omega arith))) i

pub all_apart : (c : Config) (ticks : List Tick) → IsConfig c → (q : Player) → In q (players c ticks) → Apart (role q)
all_apart c ticks i q =
    let more = trader_players 0 c.traders ++ monitor_players c.window 0 c.pairs c.traders in
    apart_first (exchange ticks) (broker (length c.traders) ∷ regulator ∷ more) q tt
    (apart_first (broker (length c.traders)) (regulator ∷ more) q tt
    (apart_first regulator more q tt
    (traders_apart 0 c.traders (monitor_players c.window 0 c.pairs c.traders) q
    (monitors_apart c.window 0 c.pairs i.pairs.each c.traders q i.traders.each))))

-- sums over the parts that they play

abbrev pub in_all : (Role → ℕ) → List Player → ℕ
in_all f ps = total (λ p. f (role p)) ps

pub all_summed : (f : Role → ℕ) (c : Config) (ticks : List Tick) →
    in_all f (players c ticks) ≡ f Exchange + f Broker + f Regulator + in_all f (trader_players 0 c.traders) + in_all f
    (monitor_players c.window 0 c.pairs c.traders)
all_summed f c ticks =
    let e = total-append (λ (p : Player). f (role p)) (trader_players 0 c.traders) (monitor_players c.window 0 c.pairs c.traders) in
    omega arith

watching_most : (f : Role → ℕ) (x : ℕ) → ((j : ℕ) (a b : List ℕ) → f (Monitor j a b) ≤ x) → (window j : ℕ) (ps : List PairRow) (ns : List ℕ) →
    in_all f (watching_players window j ps ns) ≤ x * length ns
watching_most f x h window j ps [] = omega arith
watching_most f x h window j ps (n ∷ ns) =
    let p = get_or ps n blank in
    let a = h j p.first p.second in
    let b = watching_most f x h window j ps ns in
    let e = times_suc x (length ns) in
    omega arith

pub monitors_most : (f : Role → ℕ) (x : ℕ) → ((j : ℕ) (a b : List ℕ) → f (Monitor j a b) ≤ x) → (window j : ℕ) (ps : List PairRow) (ts : List TraderRow) →
    in_all f (monitor_players window j ps ts) ≤ x * monitor_count ts
monitors_most f x h window j ps [] = omega arith
monitors_most f x h window j ps (t ∷ ts) =
    let a = watching_most f x h window j ps t.pairs in
    let b = monitors_most f x h window (j + 1) ps ts in
    let c = total-append (λ (p : Player). f (role p)) (watching_players window j ps t.pairs) (monitor_players window (j + 1) ps ts) in
    let e = times_add x (length t.pairs) (monitor_count ts) in
    omega arith

pub monitors_none : (f : Role → ℕ) → ((j : ℕ) (a b : List ℕ) → f (Monitor j a b) ≡ 0) → (window j : ℕ) (ps : List PairRow) (ts : List TraderRow) →
    in_all f (monitor_players window j ps ts) ≡ 0
monitors_none f h window j ps ts = let m = monitors_most f 0 (λ j a b. let e = h j a b in omega arith) window j ps ts in omega arith

pub traders_alike : (f : Role → ℕ) (x : ℕ) → ((j : ℕ) → f (Trader j) ≡ x) → (j : ℕ) (ts : List TraderRow) → in_all f (trader_players j ts) ≡ x * length ts
traders_alike f x h j [] = omega arith
traders_alike f x h j (t ∷ ts) =
    let a = h j in
    let b = traders_alike f x h (j + 1) ts in
    let e = times_suc x (length ts) in
    omega arith
