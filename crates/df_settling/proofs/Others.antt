-- Nobody but the units of the floor has entries.
use Rattle.df_settling.proofs.Names.{◌≡◌, inl, inr, ℕ, suc, ◌+◌, ◌<◌, List, [], ◌∷◌, Bool, true, false, refl, ap, subst, cond, length, length-append, arith, slice_get_within, IsConfig, Config, PairRow, TraderRow, Follows, IsUnaided, Legal, rows, Tick, same, Entry, Done, Emitted, UnitName, same_name-exact, floor_brains, IsOfFloor, entries_of, first_states, floor_brain, monitor_count}
use Rattle.df_settling.proofs.Bound.{actor_member, world}
use Rattle.df_settling.proofs.Members.{Member, member_kind, members}
use Rattle.df_settling.proofs.Players.{monitor_players, players, trader_players, watching_players}
use Rattle.df_settling.proofs.Totals.{In}

traders_long : (j : ℕ) (ts : List TraderRow) → length (trader_players j ts) ≡ length ts
traders_long j [] = refl
traders_long j (t ∷ ts) = ap suc (traders_long (j + 1) ts)

watching_long : (window j : ℕ) (ps : List PairRow) (ns : List ℕ) → length (watching_players window j ps ns) ≡ length ns
watching_long window j ps [] = refl
watching_long window j ps (n ∷ ns) = ap suc (watching_long window j ps ns)

monitors_long : (window j : ℕ) (ps : List PairRow) (ts : List TraderRow) → length (monitor_players window j ps ts) ≡ monitor_count ts
monitors_long window j ps [] = refl
monitors_long window j ps (t ∷ ts) =
    let a = watching_long window j ps t.pairs in
    let b = monitors_long window (j + 1) ps ts in
    let c = length-append (watching_players window j ps t.pairs) (monitor_players window (j + 1) ps ts) in
    omega arith

players_long : (c : Config) (ticks : List Tick) → length (players c ticks) ≡ 3 + length c.traders + monitor_count c.traders
players_long c ticks =
    let a = traders_long 0 c.traders in
    let b = monitors_long c.window 0 c.pairs c.traders in
    let d = length-append (trader_players 0 c.traders) (monitor_players c.window 0 c.pairs c.traders) in
    omega arith

member_of : (c : Config) (ticks : List Tick) (v : Member) → In v (members c ticks) → IsOfFloor c v.name
member_of c ticks v i = elim (member_kind c ticks v i) [
  | inl h ↦ let a = slice_get_within (players c ticks) h.0 v.player h.2 in let b = players_long c ticks in inl (h.0, omega arith, h.1)
  | inr w ↦ inr (ap (λ (m : Member). m.name) w)
]

pub others : (c : Config) (ticks : List Tick) → IsConfig c → (past : List Entry) → Legal rows (first_states c) past → IsUnaided past →
    Follows floor_brain rows (first_states c) (floor_brains c ticks) past → (u : UnitName) → 0 < entries_of u past → IsOfFloor c u
others c ticks form [] legal unaided follows u some = absurd (omega arith)
others c ticks form (Emitted k ∷ past) legal unaided follows u some = absurd unaided.1
others c ticks form (Done a call r f ∷ past) legal unaided follows u some =
    go (same a u) refl (λ k. others c ticks form past legal.0 unaided.0 follows.0 u k) some
  where
    go : (b : Bool) → same a u ≡ b → (0 < entries_of u past → IsOfFloor c u) → 0 < cond b (suc (entries_of u past)) (entries_of u past) → IsOfFloor c u
    go true e again some =
        let w = world c ticks form past legal.0 unaided.0 follows.0 in
        let m = actor_member c ticks past w a follows.1.0 follows.1.2.own in
        subst (IsOfFloor c) (same_name-exact a u e) (subst (IsOfFloor c) m.1 (member_of c ticks m.0 m.2))
    go false e again some = again some
