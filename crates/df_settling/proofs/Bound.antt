-- The settling bound: each entry of the floor takes something of what all units together may still cost.
use Rattle.df_settling.proofs.Names.{◌≡◌, ℕ, suc, ◌+◌, ◌-◌, ◌*◌, ◌≤◌, List, [], ◌∷◌, Bool, true, false, refl, sym, ◌∙◌, ap, subst, cond, Option, Some, None, length, arith, IsConfig, Config, PairRow, TraderRow, Spot, Part, commit_in, deliveries, Follows, IsUnaided, Legal, own, root_at, rows, subscriptions, Tick, same, OwnState, Call, Effect, Entry, Done, Emitted, UnitName, Managed, Root, Reply, same_name-exact, floor_brains, IsFloorJournal, first_states, floor_brain, monitor_count, settling_bound}
use Rattle.df_floor_units.specs.declared.heard.Heard.TheVariants as heard
use Rattle.df_settling.proofs.Entries.{no_weight, Next, actor_step, name_refl, other_step, unborn_step}
use Rattle.df_settling.proofs.Members.{FixedOk, InstancesOk, Inv, IsFresh, Lives, Member, RootsAlone, first_member, first_opening, first_state, gains, given_of, members, news, opens_first, player_at, plays, pot, priced_drop_all, root_member, the_mind, total_members, watcher, watcher_member}
use Rattle.df_settling.proofs.Paid.{AllApart, event_paid, floor_worth}
use Rattle.df_settling.proofs.Players.{Player, all_apart, monitor_players, players, role, trader_players, watching_players}
use Rattle.df_settling.proofs.Roles.{Role, may_tell, opening_by}
use Rattle.df_settling.proofs.Settles.{Does, actor_moves, fresh_commit, news_gain}
use Rattle.df_settling.proofs.Totals.{In, times_add, times_suc, total, total-append, total_mono, total_step, total_zero}
use Rattle.df_settling.proofs.Unit.{event_cost, paid, priced, published_parts}
use Rattle.df_settling.proofs.Worth.{watcher_tags, whole, worth}
use Rattle.df_settling.proofs.Only.{fixed_step, instances_step, roots_step}

-- all units together

gains_paid : (c : Config) (ticks : List Tick) → AllApart c ticks → (past : List Entry) (a : UnitName) (r : Role) (f : Effect) → IsFresh past a r f →
    total (λ (v : Member). gains (whole (monitor_count c.traders)) (plays v) f) (members c ticks) ≤ paid (whole (monitor_count c.traders) r) f
gains_paid c ticks apart past a r Effect.Nothing fresh = let e =
    total_zero (λ (v : Member). gains (whole (monitor_count c.traders)) (plays v) Effect.Nothing) (members c ticks) (λ u i. refl) in omega arith
gains_paid c ticks apart past a r (Effect.Given d) fresh = let e =
    total_zero (λ (v : Member). gains (whole (monitor_count c.traders)) (plays v) (Effect.Given d)) (members c ticks) (λ u i. refl) in omega arith
gains_paid c ticks apart past a r (Effect.Commit k) fresh =
    let m = monitor_count c.traders in
    let e = total_members (λ (p : Player). worth (whole m) (role p) k.edit.1) 0 (players c ticks) in
    let parts : k.edit.1 ≡ published_parts r fresh.2.0 = ap (λ (ed : List Spot × List Part). ed.1) fresh.2.2 in
    let h : floor_worth m c ticks k.edit.1 ≤ whole m r = subst (λ (ps : List Part). floor_worth m c ticks ps ≤ whole m r) (sym parts)
    (event_paid c ticks apart r fresh.2.0 fresh.2.1) in
    subst (λ (x : ℕ). x ≤ whole m r) (sym e) h

-- what holds after each journal of the floor
pub record World (c : Config) (ticks : List Tick) (past : List Entry) : Type 0 where
  pub inv : (v : Member) → In v (members c ticks) → Inv (first_states c) past v
  pub fixeds : FixedOk (first_states c) past
  pub instances : InstancesOk (first_states c) past
  pub alone : RootsAlone (first_states c) past
  pub sum : length past + total (pot (whole (monitor_count c.traders)) (first_states c) past) (members c ticks)
      ≤ total (pot (whole (monitor_count c.traders)) (first_states c) []) (members c ticks)

pub member_step : (w : Role → ℕ) (c : Config) (ticks : List Tick) → IsConfig c → (past : List Entry) → World c ticks past → (u : Member) →
    In u (members c ticks) → (call : Call) (r : Reply) (f : Effect) → Does c ticks past u.name call r f → IsFresh past u.name (plays u) f →
    (v : Member) → In v (members c ticks) → Next w (first_states c) past u.name call r f v
member_step w c ticks form past world u iu call r f does fresh v iv = go (same u.name v.name) refl (world.inv v iv).state refl
  where
    unborn : same u.name v.name ≡ false → (world.inv v iv).state ≡ None → Next w (first_states c) past u.name call r f v
    unborn e is =
        let s = first_states c in
        let lives : Lives v (the_mind v past) past (subscriptions rows s past v.name) None =
        subst (Lives v (the_mind v past) past (subscriptions rows s past v.name)) is (world.inv v iv).lives in
        let own_none : own rows s past v.name ≡ None = (world.inv v iv).own_is ∙ is in
        let it = lives.0 in
        let inv = world.inv watcher (subst (λ (m : Member). In m (members c ticks)) it iv) in
        let none : inv.state ≡ None = sym inv.own_is ∙ subst (λ (m : Member). own rows s past m.name ≡ None) it own_none in
        subst (Next w s past u.name call r f) (sym it)
        (unborn_step w s past u.name call r f inv none world.fixeds (plays u) fresh
        (subst (λ (m : Member). same u.name m.name ≡ false) it e))

    go : (b : Bool) → same u.name v.name ≡ b → (o : Option OwnState) → (world.inv v iv).state ≡ o → Next w (first_states c) past u.name call r f v
    go true e o is =
        let n = same_name-exact u.name v.name e in
        let a = actor_moves w c ticks form past v iv (world.inv v iv) call r f (subst (λ (m : UnitName). Does c ticks past m call r f) n does) in
        actor_step w (first_states c) past u.name call r f v (world.inv v iv) a (plays u) fresh e
    go false e (Some st) is = other_step w (first_states c) past u.name call r f v (world.inv v iv) st is (plays u) fresh e
    go false e None is = unborn e is

sum_step : (n p q g x b : ℕ) → n + p ≤ b → q + (1 + x) ≤ p + g → g ≤ x → suc n + q ≤ b
sum_step n p q g x b h k m = omega arith

with_gain : (p x q n g : ℕ) → p + x ≤ q + n → n ≤ g → p + x ≤ q + g
with_gain p x q n g h k = omega arith

world_step : (c : Config) (ticks : List Tick) → IsConfig c → (past : List Entry) → World c ticks past → (u : Member) → In u (members c ticks) →
    (call : Call) (r : Reply) (f : Effect) → Does c ticks past u.name call r f → World c ticks (Done u.name call r f ∷ past)
world_step c ticks form past world u iu call r f does =
    let apart = all_apart c ticks form in
    let w = whole (monitor_count c.traders) in
    let s = first_states c in
    let inv = world.inv u iu in
    let acts = actor_moves no_weight c ticks form past u iu inv call r f does in
    let fresh = fresh_commit s past u inv acts.st acts.own_is f acts.moves.fine in
    let each = member_step w c ticks form past world u iu call r f does fresh in
    let gain = λ (v : Member) (iv : In v (members c ticks)). news_gain w c ticks apart past v iv (world.inv v iv) world.fixeds u.name (plays u) f fresh in
    let all = total_step (pot w s (Done u.name call r f ∷ past)) (pot w s past) (λ (v : Member). gains w (plays v) f)
    (λ (v : Member). 1 + paid (w (plays v)) f) (λ (v : Member). same u.name v.name) (members c ticks)
    (λ v iv. with_gain (pot w s (Done u.name call r f ∷ past) v) (cond (same u.name v.name) (1 + paid (w (plays v)) f) 0) (pot w s past v)
    (priced w (plays v) (news s past v.name (commit_in f))) (gains w (plays v) f) (each v iv).cost (gain v iv)) u iu (name_refl u.name) in
    record {
      inv = λ v iv. (each v iv).inv;
      fixeds = fixed_step c ticks form past u iu inv world.fixeds call r f acts;
      instances = instances_step s past world.fixeds world.instances u.name call r f (plays u) fresh;
      alone = roots_step c ticks past world.alone u.name call r f does;
      sum = sum_step (length past) (total (pot w s past) (members c ticks)) (total (pot w s (Done u.name call r f ∷ past)) (members c ticks))
          (total (λ (v : Member). gains w (plays v) f) (members c ticks)) (paid (w (plays u)) f) (total (pot w s []) (members c ticks)) world.sum all
          (gains_paid c ticks apart past u.name (plays u) f fresh);
    }

-- the actor is a member

root_actor : (c : Config) (ticks : List Tick) (path : List ℕ) (st : OwnState) → root_at (first_states c) path ≡ Some st →
    (v : Member) × (v.name ≡ Root path) × In v (members c ticks)
root_actor c ticks [] st e = absurd (let z : ⊥ = cc in z)
root_actor c ticks (k ∷ []) st e =
    let p = player_at c ticks k st e in
    let m = root_member c ticks k p.0 p.1 in
    (m.0, m.1, m.3)
root_actor c ticks (k ∷ n ∷ path) st e = absurd (let z : ⊥ = cc in z)

pub actor_member : (c : Config) (ticks : List Tick) (past : List Entry) → World c ticks past → (a : UnitName) (st : OwnState) →
    own rows (first_states c) past a ≡ Some st → (v : Member) × (v.name ≡ a) × In v (members c ticks)
actor_member c ticks past w (Root path) st e = let f = w.alone path st e in root_actor c ticks path f.0 f.1
actor_member c ticks past w (Managed o n t) st e =
    let k = w.instances o n t st e in (
      watcher,
      ap (λ (o : List ℕ). Managed o 0 watcher_tags) (sym k.0) ∙ ap (λ (n : ℕ). Managed o n watcher_tags) (sym k.1)
          ∙ ap (Managed o n) (sym k.2),
      watcher_member c ticks,
    )

pub world : (c : Config) (ticks : List Tick) → IsConfig c → (past : List Entry) → Legal rows (first_states c) past → IsUnaided past →
    Follows floor_brain rows (first_states c) (floor_brains c ticks) past → World c ticks past
world c ticks form [] legal unaided follows = record {
  inv = first_member c ticks;
  fixeds = λ o n f h. absurd (let z : ⊥ = cc in z);
  instances = λ o n t st h. absurd (let z : ⊥ = cc in z);
  alone = λ path st h. (st, h);
  sum = omega arith;
}
world c ticks form (Emitted k ∷ past) legal unaided follows = absurd unaided.1
world c ticks form (Done a call r f ∷ past) legal unaided follows =
    let w = world c ticks form past legal.0 unaided.0 follows.0 in
    let does : Does c ticks past a call r f = record { right = legal.1; follows = follows.1 } in
    let m = actor_member c ticks past w a follows.1.0 follows.1.2.own in
    subst (λ (n : UnitName). World c ticks (Done n call r f ∷ past)) m.1
    (world_step c ticks form past w m.0 m.2 call r f (subst (λ (n : UnitName). Does c ticks past n call r f) (sym m.1) does))

-- what all units may cost at the start

abbrev pub cost_of : (Role → ℕ) → Player → ℕ
cost_of w p = length (opening_by (role p)) + may_tell p.kind heard.Nothing * event_cost w (role p)

pub first_pot : (w : Role → ℕ) (c : Config) (v : Member) → pot w (first_states c) [] v ≤ cost_of w v.player
first_pot w c v =
    let s = first_states c in
    let o = (opens_first w v.player v.name (first_state (plays v)) (first_opening (plays v))).cost in
    let p = priced_drop_all w (plays v) (given_of (own rows s [] v.name)) (deliveries rows s [] v.name) in
    let q = ap (priced w (plays v)) (none v.name) in
    omega arith
  where
    none : (n : UnitName) → deliveries rows (first_states c) [] n ≡ []
    none (Root path) = refl
    none (Managed o n t) = refl

ticks_cost : (n m : ℕ) → (n - 0 + 0) * (2 + 1 + m) ≡ n * (3 + m)
ticks_cost n m = let e : n - 0 + 0 ≡ n = omega arith in ap (λ (x : ℕ). x * (3 + m)) e ∙ ap (λ (x : ℕ). n * x) (omega arith)

traders_cost : (m j : ℕ) (ts : List TraderRow) → total (cost_of (whole m)) (trader_players j ts) ≡ 3 * length ts
traders_cost m j [] = omega arith
traders_cost m j (t ∷ ts) = let e = traders_cost m (j + 1) ts in let x = times_suc 3 (length ts) in omega arith

watching_cost : (m window j : ℕ) (ps : List PairRow) (ns : List ℕ) → total (cost_of (whole m)) (watching_players window j ps ns) ≡ 2 * length ns
watching_cost m window j ps [] = omega arith
watching_cost m window j ps (n ∷ ns) = let e = watching_cost m window j ps ns in let x = times_suc 2 (length ns) in omega arith

monitors_cost : (m window j : ℕ) (ps : List PairRow) (ts : List TraderRow) → total (cost_of (whole m)) (monitor_players window j ps ts) ≡ 2 * monitor_count ts
monitors_cost m window j ps [] = omega arith
monitors_cost m window j ps (t ∷ ts) =
    let a = watching_cost m window j ps t.pairs in
    let b = monitors_cost m window (j + 1) ps ts in
    let d = total-append (cost_of (whole m)) (watching_players window j ps t.pairs) (monitor_players window (j + 1) ps ts) in
    let e = times_add 2 (length t.pairs) (monitor_count ts) in
    omega arith

first_total : (c : Config) (ticks : List Tick) → total (pot (whole (monitor_count c.traders)) (first_states c) []) (members c ticks) ≤ settling_bound c ticks
first_total c ticks =
    let m = monitor_count c.traders in
    let a = total_mono (pot (whole m) (first_states c) []) (λ (v : Member). cost_of (whole m) v.player) (members c ticks) (λ v i. first_pot (whole m) c v) in
    let b = total_members (cost_of (whole m)) 0 (players c ticks) in
    let d = total-append (cost_of (whole m)) (trader_players 0 c.traders) (monitor_players c.window 0 c.pairs c.traders) in
    let e = ticks_cost (length ticks) (59 * m) in
    let f = traders_cost m 0 c.traders in
    let g = monitors_cost m c.window 0 c.pairs c.traders in
    omega arith

pub settles : (c : Config) (ticks : List Tick) (past : List Entry) → IsConfig c → IsFloorJournal c ticks past → length past ≤ settling_bound c ticks
settles c ticks past form j =
    let w = world c ticks form past j.legal j.unaided j.follows in
    let f = first_total c ticks in
    let s = w.sum in
    omega arith
