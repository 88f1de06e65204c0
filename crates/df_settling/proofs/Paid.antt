-- What an event is worth to all to whom it is handed is what its publisher is charged.
use Rattle.df_settling.proofs.Names.{◌≡◌, ℕ, ◌+◌, ◌*◌, ◌≤◌, ◌<◌, List, [], ◌∷◌, Bool, true, false, refl, sym, ◌∙◌, ap, subst, cond, arith, ℤ, Trade, Config, TraderRow, floor_tag, match_draft, offer_draft, tick_draft, trader_tag, warning_draft, Draft, Match, Offer, Part, Tick, trade_event, monitor_count}
use Rattle.df_label.proofs.TagSetFacts.{tag_eq-Decides}
use Rattle.df_settling.proofs.Players.{Player, all_summed, in_all, monitor_players, monitors_most, monitors_none, players, role, trader_players, traders_alike}
use Rattle.df_settling.proofs.Roles.{Apart, Broker, Exchange, Good, Monitor, Regulator, Role, Trader, Watcher}
use Rattle.df_settling.proofs.Totals.{In, total_mono}
use Rattle.df_settling.proofs.Unit.{published_parts}
use Rattle.df_settling.proofs.Worth.{bound_match, bound_offer, bound_tick, bound_trade, match_part, match_parts, match_worth, offer_worth_most, same_trader, tick_worth, trade_worth, warning_worth, whole, worth}

-- what an event is worth to all
abbrev pub floor_worth : ℕ → Config → List Tick → List Part → ℕ
floor_worth m c ticks parts = in_all (λ r. worth (whole m) r parts) (players c ticks) + worth (whole m) Watcher parts

-- the two symbols of each monitor differ
abbrev pub AllApart : Config → List Tick → Type 0
AllApart c ticks = (q : Player) → In q (players c ticks) → Apart (role q)

-- a bound for each part that is played bounds the sum
bounded : (m : ℕ) (f : Role → ℕ) (c : Config) (ticks : List Tick) (parts : List Part) → AllApart c ticks →
    ((r : Role) → Apart r → worth (whole m) r parts ≤ f r) →
    in_all (λ r. worth (whole m) r parts) (players c ticks) ≤ f Exchange + f Broker + f Regulator + in_all f (trader_players 0 c.traders) + in_all f
    (monitor_players c.window 0 c.pairs c.traders)
bounded m f c ticks parts apart h =
    let a = total_mono (λ (q : Player). worth (whole m) (role q) parts) (λ (q : Player). f (role q)) (players c ticks) (λ q i. h (role q) (apart q i)) in
    let b = all_summed f c ticks in
    omega arith

-- one trader alone has this tag

same_number : (v j : ℕ) → same_trader v j ≡ true → v ≡ j
same_number v j e = let k = heads (3 + v) (3 + j) ((tag_eq-Decides (floor_tag (trader_tag v)) (floor_tag (trader_tag j))).0 e) in omega arith
  where
    heads : (x y : ℕ) → x ∷ [] ≡ y ∷ [] → x ≡ y
    heads x y e = cc

other_trader : (v j : ℕ) → j < v → same_trader v j ≡ false
other_trader v j h = go (same_trader v j) refl
  where
    go : (b : Bool) → same_trader v j ≡ b → b ≡ false
    go true e = let k = same_number v j e in absurd (omega arith)
    go false e = refl

traders_later : (x j : ℕ) (f : Role → ℕ) → ((v : ℕ) → f (Trader v) ≡ cond (same_trader v j) x 0) → (k : ℕ) (ts : List TraderRow) → j < k →
    in_all f (trader_players k ts) ≡ 0
traders_later x j f h k [] l = refl
traders_later x j f h k (t ∷ ts) l =
    let a = h k ∙ ap (λ (b : Bool). cond b x 0) (other_trader k j l) in
    let b = traders_later x j f h (k + 1) ts (omega arith) in omega arith

traders_once : (x j : ℕ) (f : Role → ℕ) → ((v : ℕ) → f (Trader v) ≡ cond (same_trader v j) x 0) → (k : ℕ) (ts : List TraderRow) →
    in_all f (trader_players k ts) ≤ x
traders_once x j f h k [] = omega arith
traders_once x j f h k (t ∷ ts) = go (same_trader k j) refl (traders_once x j f h (k + 1) ts)
  where
    go : (b : Bool) → same_trader k j ≡ b → in_all f (trader_players (k + 1) ts) ≤ x → f (Trader k) + in_all f (trader_players (k + 1) ts) ≤ x
    go true e ih =
        let a = h k ∙ ap (λ (b : Bool). cond b x 0) e in
        let n = same_number k j e in
        let b = traders_later x j f h (k + 1) ts (omega arith) in omega arith
    go false e ih = let a = h k ∙ ap (λ (b : Bool). cond b x 0) e in omega arith

ticks_paid : (m : ℕ) (c : Config) (ticks : List Tick) (t : Tick) → AllApart c ticks →
    floor_worth m c ticks (published_parts Exchange (tick_draft t ∷ [])) ≤ 59 * monitor_count c.traders
ticks_paid m c ticks t apart =
    let parts = published_parts Exchange (tick_draft t ∷ []) in
    let a = bounded m bound_tick c ticks parts apart (tick_worth m t) in
    let b = traders_alike bound_tick 0 (λ j. refl) 0 c.traders in
    let d = monitors_most bound_tick 59 (λ j x y. omega arith) c.window 0 c.pairs c.traders in
    let e : worth (whole m) Watcher parts ≤ 0 = omega arith in
    omega arith

matches_paid : (m : ℕ) (c : Config) (ticks : List Tick) (j : ℕ) (x y : List ℕ) (s : Match) → AllApart c ticks →
    floor_worth m c ticks (published_parts (Monitor j x y) (match_draft s ∷ [])) ≤ 53
matches_paid m c ticks j x y s apart =
    let p = ap (floor_worth m c ticks) (match_parts j x y s) in
    let a = bounded m (bound_match j) c ticks (match_part j s ∷ []) apart (λ r k. match_worth m j s r) in
    let b = traders_once 53 j (bound_match j) (λ v. refl) 0 c.traders in
    let d = monitors_none (bound_match j) (λ v a b. refl) c.window 0 c.pairs c.traders in
    let e = match_worth m j s Watcher in
    omega arith

offers_paid : (m : ℕ) (c : Config) (ticks : List Tick) (j : ℕ) (o : Offer) → AllApart c ticks →
    floor_worth m c ticks (published_parts (Trader j) (offer_draft o ∷ [])) ≤ 22
offers_paid m c ticks j o apart =
    let parts = published_parts (Trader j) (offer_draft o ∷ []) in
    let a = bounded m bound_offer c ticks parts apart (λ r k. offer_worth_most m j o r) in
    let b = traders_alike bound_offer 0 (λ v. refl) 0 c.traders in
    let d = monitors_none bound_offer (λ v a b. refl) c.window 0 c.pairs c.traders in
    let e = offer_worth_most m j o Watcher in
    omega arith

abbrev bound_fill : ℕ → Role → ℕ
bound_fill b (Trader v) = cond (same_trader v b) 3 0
bound_fill b _ = 0

two_parties : (b s i : ℕ) (ts : List TraderRow) → in_all (bound_trade b s) (trader_players i ts)
    ≡ in_all (bound_fill b) (trader_players i ts) + in_all (bound_fill s) (trader_players i ts)
two_parties b s i [] = refl
two_parties b s i (t ∷ ts) = let e = two_parties b s (i + 1) ts in omega arith

trades_paid : (m : ℕ) (c : Config) (ticks : List Tick) (k : ℤ) (t : Trade) → AllApart c ticks →
    floor_worth m c ticks (published_parts Broker (trade_event k t)) ≤ 13
trades_paid m c ticks k t apart =
    let f = bound_trade t.buyer t.seller in
    let parts = published_parts Broker (trade_event k t) in
    let a = bounded m f c ticks parts apart (λ r i. trade_worth m k t r) in
    let x = two_parties t.buyer t.seller 0 c.traders in
    let y = traders_once 3 t.buyer (bound_fill t.buyer) (λ v. refl) 0 c.traders in
    let z = traders_once 3 t.seller (bound_fill t.seller) (λ v. refl) 0 c.traders in
    let d = monitors_none f (λ v a b. refl) c.window 0 c.pairs c.traders in
    let e = trade_worth m k t Watcher in
    omega arith

abbrev bound_none : Role → ℕ
bound_none r = 0

warnings_paid : (m : ℕ) (c : Config) (ticks : List Tick) (k : ℤ) → AllApart c ticks →
    floor_worth m c ticks (published_parts Watcher (warning_draft k ∷ [])) ≤ 0
warnings_paid m c ticks k apart =
    let parts = published_parts Watcher (warning_draft k ∷ []) in
    let a = bounded m bound_none c ticks parts apart (λ r i. let e = warning_worth m k r in omega arith) in
    let b = traders_alike bound_none 0 (λ j. refl) 0 c.traders in
    let d = monitors_none bound_none (λ v a b. refl) c.window 0 c.pairs c.traders in
    let e = warning_worth m k Watcher in
    omega arith

pub event_paid : (c : Config) (ticks : List Tick) → AllApart c ticks → (r : Role) (ds : List Draft) → Good r ds →
    floor_worth (monitor_count c.traders) c ticks (published_parts r ds) ≤ whole (monitor_count c.traders) r
event_paid c ticks apart Exchange ds g = subst (λ (x : List Draft). floor_worth (monitor_count c.traders) c ticks (published_parts Exchange x)
    ≤ 59 * monitor_count c.traders) (sym g.1) (ticks_paid (monitor_count c.traders) c ticks g.0 apart)
event_paid c ticks apart Broker ds g = subst (λ (x : List Draft). floor_worth (monitor_count c.traders) c ticks (published_parts Broker x) ≤ 13) (sym g.2)
    (trades_paid (monitor_count c.traders) c ticks g.0 g.1 apart)
event_paid c ticks apart Regulator ds g = absurd g
event_paid c ticks apart (Trader j) ds g = subst (λ (x : List Draft). floor_worth (monitor_count c.traders) c ticks (published_parts (Trader j) x) ≤ 22)
    (sym g.1) (offers_paid (monitor_count c.traders) c ticks j g.0 apart)
event_paid c ticks apart (Monitor j a b) ds g = subst (λ (x : List Draft). floor_worth (monitor_count c.traders) c ticks (published_parts (Monitor j a b) x)
    ≤ 53) (sym g.1) (matches_paid (monitor_count c.traders) c ticks j a b g.0 apart)
event_paid c ticks apart Watcher ds g = subst (λ (x : List Draft). floor_worth (monitor_count c.traders) c ticks (published_parts Watcher x) ≤ 0) (sym g.1)
    (warnings_paid (monitor_count c.traders) c ticks g.0 apart)
