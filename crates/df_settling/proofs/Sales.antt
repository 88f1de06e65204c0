-- After any journal of a floor the broker keeps to its count.
use Rattle.df_settling.proofs.Names.{◌≡◌, inl, inr, suc, ◌+◌, ◌*◌, ◌≤◌, List, [], ◌∷◌, ◌++◌, Bool, true, false, refl, sym, ◌∙◌, ap, subst, cond, Some, length, length-append, map, arith, IsConfig, Config, given_in, deliveries, Follows, IsUnaided, Legal, left, own, rows, subscriptions, begun, Tick, same, OwnState, after, Call, Effect, Entry, Done, Emitted, UnitName, Reply, same_name-exact, floor_brains, floor_start, Mind, did, follow_of, entries_of, handed_to, orders_resting, root_name, trades_made, IsFloorJournal, first_states, floor_brain, first_broker}
use Rattle.df_rules.specs.Received.{received}
use Rattle.df_rules.proofs.Taking.{gets_give_deliveries}
use Rattle.df_rules.proofs.TakingRows.{row_taking_laws}
use Rattle.df_settling.proofs.Bound.{World, world}
use Rattle.df_settling.proofs.Entries.{no_weight}
use Rattle.df_settling.proofs.Members.{Member, first_state, members, mind_actor, mind_other, own_actor, own_other, state_at, the_mind}
use Rattle.df_settling.proofs.Orders.{used_up}
use Rattle.df_settling.proofs.Players.{broker}
use Rattle.df_settling.proofs.Roles.{Broker}
use Rattle.df_settling.proofs.Selling.{SellsAs, sells_most, sells_step}
use Rattle.df_settling.proofs.Settles.{Does, actor_moves}
use Rattle.df_settling.proofs.Totals.{In}

abbrev seller : Config → Member
seller c = record { name = root_name 1; player = broker (length c.traders) }

seller_in : (c : Config) (ticks : List Tick) → In (seller c) (members c ticks)
seller_in c ticks = inr (inl refl)

-- the broker is there, and its entries are paid for
record Sale (c : Config) (past : List Entry) : Type 0 where
  st : OwnState
  own_is : own rows (first_states c) past (root_name 1) ≡ Some st
  sells : SellsAs (first_broker c) (the_mind (seller c) past) st (received (root_name 1) past) (entries_of (root_name 1) past)

-- an entry of the broker, and one of another unit

sale_actor : (c : Config) (ticks : List Tick) → IsConfig c → (past : List Entry) → World c ticks past → Sale c past → (call : Call) (r : Reply) (f : Effect) →
    Does c ticks past (root_name 1) call r f → same (root_name 1) (root_name 1) ≡ true → Sale c (Done (root_name 1) call r f ∷ past)
sale_actor c ticks form past w sale call r f does e =
    let s = first_states c in
    let v = seller c in
    let new = first_broker c in
    let b = the_mind v past in
    let ds = received (root_name 1) past in
    let n = entries_of (root_name 1) past in
    let iv = seller_in c ticks in
    let acts = actor_moves no_weight c ticks form past v iv (w.inv v iv) call r f does in
    let st' = after (root_name 1) acts.st call r f in
    let both : Some sale.st ≡ Some acts.st = sym sale.own_is ∙ acts.own_is in
    let alike : sale.st ≡ acts.st = cc in
    let before : SellsAs new b acts.st ds n = subst (λ (st : OwnState). SellsAs new b st ds n) alike sale.sells in
    let behind : SellsAs new (did b (follow_of b b.stage r)) st' (ds ++ given_in f) (suc n) =
    sells_step new b.kind b.heard (root_name 1) acts.st (deliveries rows s past (root_name 1)) ds n (subscriptions rows s past (root_name 1)) b.stage call
    before acts.lives.2 acts.lives.0 acts.now r f acts.replies acts.effects in
    let thinks : SellsAs new (the_mind v (Done (root_name 1) call r f ∷ past)) st' (ds ++ given_in f) (suc n) =
    subst (λ (m : Mind). SellsAs new m st' (ds ++ given_in f) (suc n)) (sym (mind_actor v (root_name 1) call r f past e)) behind in
    record {
      st = st';
      own_is = own_actor s past (root_name 1) (root_name 1) call r f acts.st e acts.own_is;
      sells = subst (λ (t : Bool). SellsAs new (the_mind v (Done (root_name 1) call r f ∷ past)) st' (cond t (ds ++ given_in f) ds) (cond t (suc n) n))
          (sym e) thinks;
    }

sale_other : (c : Config) (past : List Entry) → Sale c past → (a : UnitName) (call : Call) (r : Reply) (f : Effect) → same a (root_name 1) ≡ false →
    Sale c (Done a call r f ∷ past)
sale_other c past sale a call r f e =
    let v = seller c in
    let new = first_broker c in
    let ds = received (root_name 1) past in
    let n = entries_of (root_name 1) past in
    let thinks : SellsAs new (the_mind v (Done a call r f ∷ past)) sale.st ds n =
    subst (λ (m : Mind). SellsAs new m sale.st ds n) (sym (mind_other v a call r f past e)) sale.sells in
    record {
      st = sale.st;
      own_is = own_other (first_states c) past (root_name 1) a call r f sale.st e sale.own_is;
      sells = subst (λ (t : Bool). SellsAs new (the_mind v (Done a call r f ∷ past)) sale.st (cond t (ds ++ given_in f) ds) (cond t (suc n) n))
          (sym e) thinks;
    }

sale_step : (c : Config) (ticks : List Tick) → IsConfig c → (past : List Entry) → World c ticks past → Sale c past → (a : UnitName) (call : Call) (r : Reply)
    (f : Effect) → Does c ticks past a call r f → Sale c (Done a call r f ∷ past)
sale_step c ticks form past w sale a call r f does = go (same a (root_name 1)) refl
  where
    go : (t : Bool) → same a (root_name 1) ≡ t → Sale c (Done a call r f ∷ past)
    go true e =
        let n = same_name-exact a (root_name 1) e in
        subst (λ (u : UnitName). Sale c (Done u call r f ∷ past)) (sym n)
        (sale_actor c ticks form past w sale call r f (subst (λ (u : UnitName). Does c ticks past u call r f) n does)
        (subst (λ (u : UnitName). same u (root_name 1) ≡ true) n e))
    go false e = sale_other c past sale a call r f e

sale : (c : Config) (ticks : List Tick) → IsConfig c → (past : List Entry) → Legal rows (first_states c) past → IsUnaided past →
    Follows floor_brain rows (first_states c) (floor_brains c ticks) past → Sale c past
sale c ticks form [] legal unaided follows = record {
  st = first_state Broker;
  own_is = state_at c ticks 1 (broker (length c.traders)) refl;
  sells = (refl, refl, record { traders = refl; book = refl });
}
sale c ticks form (Emitted k ∷ past) legal unaided follows = absurd unaided.1
sale c ticks form (Done a call r f ∷ past) legal unaided follows =
    sale_step c ticks form past (world c ticks form past legal.0 unaided.0 follows.0) (sale c ticks form past legal.0 unaided.0 follows.0) a call r f
    (record { right = legal.1; follows = follows.1 })

-- it received no more than it is handed
received_few : (c : Config) (past : List Entry) → Legal rows (first_states c) past → (st : OwnState) →
    own rows (first_states c) past (root_name 1) ≡ Some st → length (received (root_name 1) past) ≤ length (handed_to c past (root_name 1))
received_few c past legal st there =
    let start = map begun (floor_start c) in
    let all = (gets_give_deliveries rows (first_states c) (row_taking_laws start) past legal (root_name 1) st there).all in
    let e = ap length all in
    let l = length-append (received (root_name 1) past) (left st (deliveries rows (first_states c) past (root_name 1))) in
    omega arith

pub broker_keeps : (c : Config) (ticks : List Tick) → IsConfig c → (past : List Entry) → IsFloorJournal c ticks past →
    entries_of (root_name 1) past ≤ 2 + 3 * length (handed_to c past (root_name 1)) + 6 * trades_made c past
broker_keeps c ticks form past j =
    let s = sale c ticks form past j.legal j.unaided j.follows in
    let m = the_mind (seller c) past in
    let k = sells_most (first_broker c) m.kind m.heard m.stage s.st (received (root_name 1) past) (entries_of (root_name 1) past) s.sells in
    let f = received_few c past j.legal s.st s.own_is in
    omega arith

pub trades_keep : (c : Config) (ticks : List Tick) → IsConfig c → (past : List Entry) → IsFloorJournal c ticks past →
    trades_made c past + length (orders_resting c past) ≤ length (handed_to c past (root_name 1))
trades_keep c ticks form past j =
    let s = sale c ticks form past j.legal j.unaided j.follows in
    let u = used_up (first_broker c) (received (root_name 1) past) in
    let f = received_few c past j.legal s.st s.own_is in
    omega arith
