-- Before the exchange's first entry no unit of the floor commits, so nothing is handed to any, and the regulator has no instance.
use Rattle.df_settling.proofs.Names.{◌≡◌, ◌⊎◌, inl, inr, ℕ, zero, suc, ◌+◌, ◌≤◌, List, [], ◌∷◌, ◌++◌, Bool, true, false, true≢false, ◌||◌, refl, sym, ◌∙◌, ap, subst, cond, Option, Some, None, append-nil, arith, slice_get, option_map, option_or, IsConfig, Config, PairRow, TraderRow, commit_in, deliveries, Follows, has_entry, IsUnaided, Legal, born, fixed, own, stepped, rows, Tick, same, Fixed, OwnState, after, Call, Given, Effect, Entry, Done, Emitted, UnitName, Managed, Root, Reply, floor_brains, root_name, first_states, floor_brain}
use Rattle.df_settling.proofs.Bound.{World, actor_member, cost_of, first_pot, member_step, world}
use Rattle.df_settling.proofs.Entries.{name_refl}
use Rattle.df_settling.proofs.Members.{Member, deliveries_grow, given_of, in_of_get, member_kind, members, news, plays, pot, watcher}
use Rattle.df_settling.proofs.Players.{Player, monitor_players, players, trader_players, watching_players}
use Rattle.df_settling.proofs.Roles.{Role}
use Rattle.df_settling.proofs.Settles.{Does, actor_moves, fresh_commit, no_news}
use Rattle.df_settling.proofs.Totals.{In}
use Rattle.df_settling.proofs.Unit.{paid, priced}
use Rattle.df_settling.proofs.Worth.{watcher_tags}

-- an event that is told is charged more than any opening costs
abbrev pub heavy : Role → ℕ
heavy r = 4

-- but for the exchange no unit begins with an event to tell

in_either : {A : Type 0} (xs ys : List A) (x : A) → In x (xs ++ ys) → In x xs ⊎ In x ys
in_either [] ys x i = inr i
in_either (a ∷ xs) ys x (inl e) = inl (inl e)
in_either (a ∷ xs) ys x (inr i) = elim (in_either xs ys x i) [
  | inl k ↦ inl (inr k)
  | inr k ↦ inr k
]

abbrev IsLight : Player → Type 0
IsLight p = cost_of heavy p ≤ 3

traders_light : (j : ℕ) (ts : List TraderRow) (p : Player) → In p (trader_players j ts) → IsLight p
traders_light j [] p i = absurd i
traders_light j (t ∷ ts) p (inl e) = subst IsLight (sym e) (omega arith)
traders_light j (t ∷ ts) p (inr i) = traders_light (j + 1) ts p i

watching_light : (window j : ℕ) (ps : List PairRow) (ns : List ℕ) (p : Player) → In p (watching_players window j ps ns) → IsLight p
watching_light window j ps [] p i = absurd i
watching_light window j ps (n ∷ ns) p (inl e) = subst IsLight (sym e) (omega arith)
watching_light window j ps (n ∷ ns) p (inr i) = watching_light window j ps ns p i

monitors_light : (window j : ℕ) (ps : List PairRow) (ts : List TraderRow) (p : Player) → In p (monitor_players window j ps ts) → IsLight p
monitors_light window j ps [] p i = absurd i
monitors_light window j ps (t ∷ ts) p i =
    elim (in_either (watching_players window j ps t.pairs) (monitor_players window (j + 1) ps ts) p i) [
      | inl k ↦ watching_light window j ps t.pairs p k
      | inr k ↦ monitors_light window (j + 1) ps ts p k
    ]

root_light : (c : Config) (ticks : List Tick) (i : ℕ) (p : Player) → slice_get (players c ticks) (suc i) ≡ Some p → IsLight p
root_light c ticks zero p e = omega (arith, ap (λ (o : Option Player). cost_by o) e)
  where
    cost_by : Option Player → ℕ
    cost_by None = 0
    cost_by (Some q) = cost_of heavy q
root_light c ticks (suc zero) p e = omega (arith, ap (λ (o : Option Player). cost_by o) e)
  where
    cost_by : Option Player → ℕ
    cost_by None = 0
    cost_by (Some q) = cost_of heavy q
root_light c ticks (suc (suc k)) p e =
    elim (in_either (trader_players 0 c.traders) (monitor_players c.window 0 c.pairs c.traders) p
    (in_of_get (trader_players 0 c.traders ++ monitor_players c.window 0 c.pairs c.traders) k p e)) [
      | inl i ↦ traders_light 0 c.traders p i
      | inr i ↦ monitors_light c.window 0 c.pairs c.traders p i
    ]

member_light : (c : Config) (ticks : List Tick) (v : Member) → In v (members c ticks) → same v.name (root_name 0) ≡ false → IsLight v.player
member_light c ticks v i other = elim (member_kind c ticks v i) [
  | inl h ↦ at h.0 h.1 h.2
  | inr e ↦ subst (λ (m : Member). IsLight m.player) (sym e) (omega arith)
]
  where
    at : (i : ℕ) → v.name ≡ Root (i ∷ []) → slice_get (players c ticks) i ≡ Some v.player → IsLight v.player
    at zero n e = absurd (true≢false (sym (name_refl (root_name 0)) ∙ ap (λ (u : UnitName). same u (root_name 0)) (sym n) ∙ other))
    at (suc i) n e = root_light c ticks i v.player e

-- what stands of each member: nothing was handed to it, and it costs no more than its opening
pub record IsSilent (c : Config) (past : List Entry) (v : Member) : Type 0 where
  pub none : deliveries rows (first_states c) past v.name ≡ []
  pub small : pot heavy (first_states c) past v ≤ cost_of heavy v.player

pub record AreSilent (c : Config) (ticks : List Tick) (past : List Entry) : Type 0 where
  pub each : (v : Member) → In v (members c ticks) → IsSilent c past v
  pub unborn : own rows (first_states c) past watcher.name ≡ None

no_commit : (f : Effect) → paid 4 f ≤ 3 → commit_in f ≡ None
no_commit Effect.Nothing h = refl
no_commit (Effect.Given d) h = refl
no_commit (Effect.Commit k) h = absurd (omega arith)

-- an instance isn't born without a commit

stepped_none : (u : UnitName) (e : Entry) → stepped rows u e None ≡ None
stepped_none u (Emitted k) = refl
stepped_none u (Done a c r f) = by (same a u)
  where
    by : (b : Bool) → cond b (option_map (λ (st : OwnState). after u st c r f) None) None ≡ None
    by true = refl
    by false = refl

born_none : (fx : Option Fixed) (t : List (List ℕ)) (past : List Entry) → born rows fx t past None ≡ None
born_none None t past = refl
born_none (Some f) t past = refl

still_unborn : (s : List OwnState) (past : List Entry) (a : UnitName) (c : Call) (r : Reply) (f : Effect) → own rows s past watcher.name ≡ None →
    commit_in f ≡ None → own rows s (Done a c r f ∷ past) watcher.name ≡ None
still_unborn s past a c r f none quiet =
    ap (λ (o : Option OwnState). option_or (stepped rows watcher.name (Done a c r f) o)
    (born rows (fixed rows s past (2 ∷ []) 0) watcher_tags past (commit_in f))) none
    ∙ ap (λ (o : Option OwnState). option_or o (born rows (fixed rows s past (2 ∷ []) 0) watcher_tags past (commit_in f)))
    (stepped_none watcher.name (Done a c r f))
    ∙ ap (born rows (fixed rows s past (2 ∷ []) 0) watcher_tags past) quiet
    ∙ born_none (fixed rows s past (2 ∷ []) 0) watcher_tags past

-- one more entry of another unit than the exchange

module _ (c : Config) (ticks : List Tick) (form : IsConfig c) (past : List Entry) (now : World c ticks past) (u : Member) (iu : In u (members c ticks))
    (call : Call) (r : Reply) (f : Effect) (does : Does c ticks past u.name call r f) (so : AreSilent c ticks past)
    (other : same u.name (root_name 0) ≡ false) where
  abbrev s : List OwnState
  s = first_states c

  makes_no_commit : commit_in f ≡ None
  makes_no_commit =
      let acts = actor_moves heavy c ticks form past u iu (now.inv u iu) call r f does in
      let pays = acts.moves.pays in
      let given = ap given_of acts.own_is in
      let is : pot heavy s past u ≡ Rattle.df_settling.proofs.Members.pot_of heavy (plays u) (Rattle.df_settling.proofs.Members.the_mind u past)
      acts.st.given (deliveries rows s past u.name) =
      ap (λ (g : ℕ). Rattle.df_settling.proofs.Members.pot_of heavy (plays u) (Rattle.df_settling.proofs.Members.the_mind u past) g
      (deliveries rows s past u.name)) given in
      let small = (so.each u iu).small in
      let light = member_light c ticks u iu other in
      no_commit f (omega (arith, pays, is, small, light))

  stays_silent : (v : Member) → In v (members c ticks) → IsSilent c (Done u.name call r f ∷ past) v
  stays_silent v iv =
      let acts = actor_moves heavy c ticks form past u iu (now.inv u iu) call r f does in
      let fresh = fresh_commit s past u (now.inv u iu) acts.st acts.own_is f acts.moves.fine in
      let k = (member_step heavy c ticks form past now u iu call r f does fresh v iv).cost in
      let none : news s past v.name (commit_in f) ≡ [] = ap (news s past v.name) makes_no_commit ∙ no_news s past v.name in
      let free = ap (priced heavy (plays v)) none in
      let was = so.each v iv in
      let small = was.small in
      record {
        none =
            deliveries_grow s (Done u.name call r f) past v.name
            ∙ ap (λ (ds : List Given). deliveries rows s past v.name ++ ds) none
            ∙ append-nil (deliveries rows s past v.name)
            ∙ was.none;
        small = omega (arith, k, free, small);
      }

  silent_step : AreSilent c ticks (Done u.name call r f ∷ past)
  silent_step = record { each = stays_silent; unborn = still_unborn s past u.name call r f so.unborn makes_no_commit }

both_false : (a b : Bool) → (a || b) ≡ false → (a ≡ false) × (b ≡ false)
both_false false b e = (refl, e)
both_false true b e = absurd (true≢false e)

first_silent : (c : Config) (v : Member) → IsSilent c [] v
first_silent c v = record { none = nothing v.name; small = first_pot heavy c v }
  where
    nothing : (n : UnitName) → deliveries rows (first_states c) [] n ≡ []
    nothing (Root path) = refl
    nothing (Managed o n t) = refl

-- in a journal of the floor without an entry of the exchange
pub silent : (c : Config) (ticks : List Tick) → IsConfig c → (past : List Entry) → Legal rows (first_states c) past → IsUnaided past →
    Follows floor_brain rows (first_states c) (floor_brains c ticks) past → has_entry (root_name 0) past ≡ false → AreSilent c ticks past
silent c ticks form [] legal unaided follows none = record { each = λ v iv. first_silent c v; unborn = refl }
silent c ticks form (Emitted k ∷ past) legal unaided follows none = absurd unaided.1
silent c ticks form (Done a call r f ∷ past) legal unaided follows none =
    let w = world c ticks form past legal.0 unaided.0 follows.0 in
    let does : Does c ticks past a call r f = record { right = legal.1; follows = follows.1 } in
    let m = actor_member c ticks past w a follows.1.0 follows.1.2.own in
    let apart = both_false (same a (root_name 0)) (has_entry (root_name 0) past) none in
    let so = silent c ticks form past legal.0 unaided.0 follows.0 apart.1 in
    let other : same m.0.name (root_name 0) ≡ false = subst (λ (n : UnitName). same n (root_name 0) ≡ false) (sym m.1) apart.0 in
    subst (λ (n : UnitName). AreSilent c ticks (Done n call r f ∷ past)) m.1
    (silent_step c ticks form past w m.0 m.2 call r f (subst (λ (n : UnitName). Does c ticks past n call r f) (sym m.1) does) so other)
