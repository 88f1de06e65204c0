-- What is kept of the units of each root's family is so in every legal journal into which nothing was emitted.
use Rattle.df_family.proofs.Names.{◌≡◌, ℕ, ◌-◌, zero, suc, List, [], ◌∷◌, Bool, true, false, not, ◌&&◌, refl, sym, ap, subst, cond, Option, Some, None, length, take, arith, ⊤, drop, slice_get, map, filter, flat_map, option_map, option_and_then, option_or, eqb-true, eq-eqb, Clause, flows_to, maker_of, number_of, Label, Privilege, names, begins_with, is_of, Relation, IsClosed, MayHold, apply, is_deleted, spared, Part, holds, Roots, rows, roots, root_of, begin, fixed_of, child, readable_at, OwnState, Fixed, reply, effect, after, path_of, is_nil, Call, Instantiate, Given, Effect, UnitName, Reply}
use Rattle.df_family.specs.Never.{NeverHolds}
use Rattle.df_family.proofs.Bound.{Each, each_append, each_filter, IsBacked, IsBound, IsFixedBound}
use Rattle.df_family.proofs.BoundRows.{AddsBacked, kept_after, effect_backed, root_bound, fixed_bound, begin_bound, child_bound}
use Rattle.df_part.specs.Part.{cut}
use Rattle.df_rules.proofs.Invariant.{IfThere}
use Rattle.df_rules.proofs.RowLaws.{first_is, second_is, makes_is, by_fixed}
use Rattle.df_rules.specs.Choices.{matches}
use Rattle.df_rules.specs.Commits.{commit_in, commit_of, committed, contents}
use Rattle.df_rules.specs.Deliveries.{deliveries, deliveries_plain, deliveries_instance, plain_news, instance_news, offer, was_handed}
use Rattle.df_rules.specs.Legal.{Legal, IsRight, IsUnaided, IsDone, answer, answer_of, left}
use Rattle.df_rules.specs.Own.{own, own_plain, own_instance, stepped, made_by, root_at, fixed, fixed_by, is_given, born}
use Rattle.df_rules.specs.Subscriptions.{subscriptions}
use Rattle.df_unit.proofs.SameFacts.{same_name-exact, same_name_decides}
use Rattle.df_unit.specs.Name.{same, same_event}
use Rattle.df_unit.specs.declared.commit.Commit.{Commit}
use Rattle.df_unit.specs.declared.entry.Entry.{Entry}
use Rattle.df_unit.specs.declared.entry.Entry.TheVariants.{Done, Emitted}
use Rattle.df_unit.specs.declared.name.EventName.{EventName}
use Rattle.df_unit.specs.declared.name.UnitName.TheVariants.{Root, Managed}

-- the state is bound by the root with which the path begins
abbrev pub InFamily : Roots → Relation → List ℕ → OwnState → Type 0
InFamily start h [] st = ⊥
InFamily start h (k ∷ path) st = (root : Label × List Privilege) × (slice_get start k ≡ Some root) × IsBound start h k root.0 st

abbrev pub FixedIn : Roots → Relation → List ℕ → Option Fixed → Type 0
FixedIn start h o None = ⊤
FixedIn start h [] (Some f) = ⊥
FixedIn start h (k ∷ path) (Some f) = (root : Label × List Privilege) × (slice_get start k ≡ Some root) × IsFixedBound start h k root.0 f

-- all that is kept after the entries
pub record AllBound (start : Roots) (h : Relation) (past : List Entry) : Type 0 where
  pub plain : (path : List ℕ) → IfThere (InFamily start h path) (own_plain rows (roots start) past path)
  pub fixed : (o : List ℕ) (n : ℕ) → FixedIn start h o (fixed rows (roots start) past o n)
  pub instances : (o : List ℕ) (n : ℕ) (t : List (List ℕ)) → IfThere (InFamily start h o) (own_instance rows (roots start) past o n t)
  pub parts : (event : EventName) → Each (IsBacked start h) (contents past event)
  pub handed : (u : UnitName) → Each (λ d. Each (IsBacked start h) d.parts) (deliveries rows (roots start) past u)

-- lists and states

either_there : (P : OwnState → Type 0) (x y : Option OwnState) → IfThere P x → IfThere P y → IfThere P (option_or x y)
either_there P None y h k = k
either_there P (Some st) y h k = h

drop_each : {X : Type 0} (P : X → Type 0) (n : ℕ) (xs : List X) → Each P xs → Each P (drop n xs)
drop_each P zero xs h = h
drop_each P (suc n) [] h = tt
drop_each P (suc n) (x ∷ xs) h = drop_each P n xs h.1

module _ (start : Roots) (h : Relation) (closed : IsClosed start h) where
  abbrev s : List OwnState
  s = roots start

  Gifts : List Given → Type 0
  Gifts = Each (λ d. Each (IsBacked start h) d.parts)

  -- a unit as it is
  unit_bound : (past : List Entry) → AllBound start h past → (u : UnitName) → IfThere (InFamily start h (path_of u)) (own rows s past u)
  unit_bound past all (Root path) = all.plain path
  unit_bound past all (Managed o n t) = all.instances o n t

  -- the deliveries that are left to it
  abbrev rest_of : List Entry → UnitName → OwnState → List Given
  rest_of past u st = left st (deliveries rows s past u)

  -- an entry has the answer of its actor
  answered : (past : List Entry) (a u : UnitName) → same a u ≡ true → (st : OwnState) → own rows s past u ≡ Some st → (c : Call) (r : Reply) (f : Effect) → answer rows s past a c ≡ (r, f) →
      (reply u st (rest_of past u st) c ≡ r) × (effect u st (rest_of past u st) c ≡ f)
  answered past a u e st mine c r f right =
      let now : answer rows s past u c ≡ (r, f) = subst (λ (v : UnitName). answer rows s past v c ≡ (r, f)) (same_name-exact a u e) right in
      let by_state : rows.answer u st (rest_of past u st) c ≡ (r, f) = rw mine at now in
      let ds = rest_of past u st in
      (first_is (reply u st ds c) r (effect u st ds c) f by_state, second_is (reply u st ds c) r (effect u st ds c) f by_state)

  after_bound : (u : UnitName) (path : List ℕ) → path_of u ≡ path → (st : OwnState) (ds : List Given) → Each (λ d. Each (IsBacked start h) d.parts) ds → InFamily start h path st → (c : Call) → InFamily start h path (after u st c (reply u st ds c) (effect u st ds c))
  after_bound u [] e st ds given b c = b
  after_bound u (k ∷ path) e st ds given b c = (b.0, b.1, kept_after start h closed k b.0 b.1 u (subst (λ (p : List ℕ). begins_with k p ≡ true) (sym e) (eq-eqb k k refl)) st ds given b.2 c)

  stepped_bound : (past : List Entry) → AllBound start h past → (e : Entry) → IsRight rows s past e → (u : UnitName) → IfThere (InFamily start h (path_of u)) (stepped rows u e (own rows s past u))
  stepped_bound past all (Emitted c) right u = unit_bound past all u
  stepped_bound past all (Done a c r f) right u = go (same a u) refl (own rows s past u) refl (unit_bound past all u)
    where
      go : (b : Bool) → same a u ≡ b → (o : Option OwnState) → own rows s past u ≡ o → IfThere (InFamily start h (path_of u)) o → IfThere (InFamily start h (path_of u)) (cond b (option_map (λ st. after u st c r f) o) o)
      go false e o mine b = b
      go true e None mine b = tt
      go true e (Some st) mine b =
          let is = answered past a u e st mine c r f right in
          let ds = rest_of past u st in
          subst (λ (x : Reply). InFamily start h (path_of u) (after u st c x f)) is.0
          (subst (λ (x : Effect). InFamily start h (path_of u) (after u st c (reply u st ds c) x)) is.1
          (after_bound u (path_of u) refl st ds (drop_each (λ d. Each (IsBacked start h) d.parts) st.given (deliveries rows s past u) (all.handed u)) b c))

  -- a unit as it begins

  root_there : (path : List ℕ) → IfThere (InFamily start h path) (root_at s path)
  root_there [] = tt
  root_there (k ∷ []) = go start k (λ root e. root_bound start h closed k root e)
    where
      go : (rs : Roots) (n : ℕ) → ((root : Label × List Privilege) → slice_get rs n ≡ Some root → IsBound start h k root.0 (root_of root)) → IfThere (λ st. (root : Label × List Privilege) × (slice_get rs n ≡ Some root) × IsBound start h k root.0 st) (slice_get (map root_of rs) n)
      go [] n f = tt
      go (r ∷ rs) zero f = (r, refl, f r refl)
      go (r ∷ rs) (suc n) f = go rs n f
  root_there (k ∷ m ∷ path) = tt

  -- a child is of its maker's family
  as_child : (path : List ℕ) (st ch : OwnState) → InFamily start h (maker_of path) st → ((k : ℕ) (root : Label × List Privilege) → slice_get start k ≡ Some root → IsBound start h k root.0 st → IsBound start h k root.0 ch) → InFamily start h path ch
  as_child [] st ch b f = b
  as_child (k ∷ []) st ch b f = absurd (let z : ⊥ = b in z)
  as_child (k ∷ m ∷ path) st ch b f =
      let before : length (k ∷ m ∷ path) - 1 ≡ suc (length path) = omega arith in
      let maker : maker_of (k ∷ m ∷ path) ≡ k ∷ take (length path) (m ∷ path) = ap (λ (n : ℕ). take n (k ∷ m ∷ path)) before in
      let now : InFamily start h (k ∷ take (length path) (m ∷ path)) st = subst (λ (p : List ℕ). InFamily start h p st) maker b in
      (now.0, now.1, f k now.0 now.1 now.2)

  made_there : (past : List Entry) → AllBound start h past → (e : Entry) → IsRight rows s past e → (path : List ℕ) → IfThere (InFamily start h path) (made_by rows e path (own_plain rows s past (maker_of path)))
  made_there past all (Emitted c) right path = tt
  made_there past all (Done a c r f) right path = by (same a (Root (maker_of path))) refl (own_plain rows s past (maker_of path)) refl (all.plain (maker_of path))
    where
      made : (m : OwnState) → same a (Root (maker_of path)) ≡ true → own_plain rows s past (maker_of path) ≡ Some m → InFamily start h (maker_of path) m → (x : Option OwnState) → rows.makes m (number_of path) c r ≡ x → IfThere (InFamily start h path) x
      made m e mine b None new = tt
      made m e mine b (Some ch) new =
          let is = makes_is m (number_of path) c r ch new in
          let ds = rest_of past (Root (maker_of path)) m in
          let given : reply (Root (maker_of path)) m ds (Instantiate is.0 is.1) ≡ Reply.Unit (number_of path) =
          subst (λ (x : Call). reply (Root (maker_of path)) m ds x ≡ Reply.Unit (number_of path)) is.2 (subst (λ (x : Reply). reply (Root (maker_of path)) m ds c ≡ x) is.3 (answered past a (Root (maker_of path)) e m mine c r f right).0) in
          subst (InFamily start h path) is.4 (as_child path m (child m is.0 is.1) b (λ k root is_root bound. child_bound start h closed k root is_root (Root (maker_of path)) m ds is.0 is.1 (number_of path) bound given))

      by : (b : Bool) → same a (Root (maker_of path)) ≡ b → (o : Option OwnState) → own_plain rows s past (maker_of path) ≡ o → IfThere (InFamily start h (maker_of path)) o → IfThere (InFamily start h path) (cond b (option_and_then (λ st. rows.makes st (number_of path) c r) o) None)
      by false e o mine b = tt
      by true e None mine b = tt
      by true e (Some m) mine b = made m e mine b (rows.makes m (number_of path) c r) refl

  -- what a managed subscription keeps, and its instances

  fixed_family : (o : List ℕ) (st : OwnState) (filter : List Clause) → InFamily start h o st → FixedIn start h o (Some (fixed_of st filter))
  fixed_family [] st filter b = b
  fixed_family (k ∷ path) st filter b = (b.0, b.1, fixed_bound start h closed k b.0 b.1 st filter b.2)

  fixed_there : (past : List Entry) → AllBound start h past → (e : Entry) (o : List ℕ) (n : ℕ) → FixedIn start h o (option_or (fixed rows s past o n) (fixed_by rows e o n (own_plain rows s past o)))
  fixed_there past all e o n = either (fixed rows s past o n) (fixed_by rows e o n (own_plain rows s past o)) (all.fixed o n) (by_entry e)
    where
      either : (x y : Option Fixed) → FixedIn start h o x → FixedIn start h o y → FixedIn start h o (option_or x y)
      either None y k m = m
      either (Some f) y k m = k

      kept : (st : OwnState) (c : Call) (r : Reply) → InFamily start h o st → (x : Option Fixed) → rows.fixes st n c r ≡ x → FixedIn start h o x
      kept st c r b None e = nothing o
        where
          nothing : (o : List ℕ) → FixedIn start h o None
          nothing o = tt
      kept st c r b (Some f) e = by_fixed (λ f. FixedIn start h o (Some f)) st n c r f e (λ filter. fixed_family o st filter b)

      by_owner : (c : Call) (r : Reply) (b : Bool) (x : Option OwnState) → IfThere (InFamily start h o) x → FixedIn start h o (cond b (option_and_then (λ st. rows.fixes st n c r) x) None)
      by_owner c r true None k = tt
      by_owner c r true (Some st) k = kept st c r k (rows.fixes st n c r) refl
      by_owner c r false x k = tt

      by_entry : (e : Entry) → FixedIn start h o (fixed_by rows e o n (own_plain rows s past o))
      by_entry (Done a c r f) = by_owner c r (same a (Root o)) (own_plain rows s past o) (all.plain o)
      by_entry (Emitted c) = tt

  begin_family : (o : List ℕ) (f : Fixed) (t : List (List ℕ)) → FixedIn start h o (Some f) → InFamily start h o (begin f t)
  begin_family [] f t b = b
  begin_family (k ∷ path) f t b = (b.0, b.1, begin_bound start h closed k b.0 b.1 f t b.2)

  born_there : (past : List Entry) (o : List ℕ) (fx : Option Fixed) → FixedIn start h o fx → (t : List (List ℕ)) (oc : Option Commit) → IfThere (InFamily start h o) (born rows fx t past oc)
  born_there past o None b t oc = tt
  born_there past o (Some f) b t oc = go (is_given (Some f) t past oc)
    where
      go : (g : Bool) → IfThere (InFamily start h o) (cond g (Some (begin f t)) None)
      go true = begin_family o f t b
      go false = tt

  -- parts

  AddsIn : Option Commit → Type 0
  AddsIn None = ⊤
  AddsIn (Some c) = Each (IsBacked start h) c.edit.1

  effect_adds : (a : UnitName) (path : List ℕ) (st : OwnState) (ds : List Given) (c : Call) → InFamily start h path st → AddsIn (commit_in (effect a st ds c))
  unfolding AddsIn
  effect_adds a [] st ds c b = absurd b
  effect_adds a (k ∷ path) st ds c b = go (effect a st ds c) (effect_backed start h closed k b.0 b.1 a st ds b.2 c)
    where
      go : (f : Effect) → AddsBacked start h closed k b.0 b.1 f → AddsIn (commit_in f)
      go Effect.Nothing m = tt
      go (Effect.Given d) m = tt
      go (Effect.Commit x) m = m

  entry_adds : (past : List Entry) → AllBound start h past → (e : Entry) → IsRight rows s past e → IsDone e → AddsIn (commit_of e)
  unfolding AddsIn
  entry_adds past all (Emitted c) right done = absurd done
  entry_adds past all (Done a c r f) right done = go (own rows s past a) refl (unit_bound past all a)
    where
      go : (o : Option OwnState) → own rows s past a ≡ o → IfThere (InFamily start h (path_of a)) o → AddsIn (commit_in f)
      go None mine b =
          let now : answer_of rows a None (deliveries rows s past a) c ≡ (r, f) = rw mine at right in
          let is_f = second_is Reply.NoSuchUnit r Effect.Nothing f now in
          subst (λ (x : Effect). AddsIn (commit_in x)) is_f tt
      go (Some st) mine b = subst (λ (x : Effect). AddsIn (commit_in x)) (answered past a a ((same_name_decides a a).1 refl) st mine c r f right).1 (effect_adds a (path_of a) st (rest_of past a st) c b)

  applied : (c : Commit) (parts : List Part) → Each (IsBacked start h) c.edit.1 → Each (IsBacked start h) parts → Each (IsBacked start h) (apply c.edit parts)
  applied c parts new old = each_append (IsBacked start h) (spared c.edit.0 parts) c.edit.1 (each_filter (IsBacked start h) (IsBacked start h) (λ part. not (is_deleted part c.edit.0)) (λ part e w. w) parts old) new

  contents_there : (event : EventName) (oc : Option Commit) (parts : List Part) → AddsIn oc → Each (IsBacked start h) parts → Each (IsBacked start h) (committed event oc parts)
  unfolding AddsIn
  contents_there event None parts new old = old
  contents_there event (Some c) parts new old = go (same_event c.event event)
    where
      go : (b : Bool) → Each (IsBacked start h) (cond b (apply c.edit parts) parts)
      go true = applied c parts new old
      go false = old

  -- deliveries

  cut_backed : (at : Label) (parts : List Part) → Each (IsBacked start h) parts → Each (IsBacked start h) (cut at parts)
  cut_backed at parts each = each_filter (IsBacked start h) (IsBacked start h) (λ part. flows_to part.label at) (λ part e w. w) parts each

  offers : (ds : List Given) (event : EventName) (parts : List Part) → Each (IsBacked start h) parts → (subs : List (ℕ × List Clause)) → Gifts (flat_map (λ sub. offer ds event parts sub) subs)
  unfolding Gifts
  offers ds event parts each [] = tt
  offers ds event parts each (sub ∷ subs) = each_append (λ d. Each (IsBacked start h) d.parts) (offer ds event parts sub) (flat_map (λ sub. offer ds event parts sub) subs) (one (matches sub.1 parts && not (was_handed ds event sub.0))) (offers ds event parts each subs)
    where
      one : (b : Bool) → Gifts (cond b (record { event = event; sub = sub.0; parts = parts } ∷ []) [])
      one true = (each, tt)
      one false = tt

  plain_gifts : (o : Option OwnState) (subs : List (ℕ × List Clause)) (ds : List Given) (past : List Entry) (oc : Option Commit) → ((event : EventName) → Each (IsBacked start h) (contents past event)) → AddsIn oc → Gifts (plain_news o subs ds past oc)
  unfolding Gifts AddsIn
  plain_gifts None subs ds past oc parts new = tt
  plain_gifts (Some st) subs ds past None parts new = tt
  plain_gifts (Some st) subs ds past (Some c) parts new = go (is_nil (cut st.input c.edit.1))
    where
      seen : List Part
      seen = cut st.input (apply c.edit (contents past c.event))

      go : (b : Bool) → Gifts (cond b [] (flat_map (λ sub. offer ds c.event seen sub) subs))
      go true = tt
      go false = offers ds c.event seen (cut_backed st.input (apply c.edit (contents past c.event)) (applied c (contents past c.event) new (parts c.event))) subs

  instance_gifts : (fx : Option Fixed) (n : ℕ) (t : List (List ℕ)) (ds : List Given) (past : List Entry) (oc : Option Commit) → ((event : EventName) → Each (IsBacked start h) (contents past event)) → AddsIn oc → Gifts (instance_news fx n t ds past oc)
  unfolding Gifts AddsIn
  instance_gifts None n t ds past oc parts new = tt
  instance_gifts (Some f) n t ds past None parts new = tt
  instance_gifts (Some f) n t ds past (Some c) parts new = go (is_given (Some f) t past (Some c) && not (was_handed ds c.event n))
    where
      seen : List Part
      seen = cut (readable_at f t) (apply c.edit (contents past c.event))

      go : (b : Bool) → Gifts (cond b (record { event = c.event; sub = n; parts = seen } ∷ []) [])
      go true = (cut_backed (readable_at f t) (apply c.edit (contents past c.event)) (applied c (contents past c.event) new (parts c.event)), tt)
      go false = tt

  gifts_there : (e : Entry) (past : List Entry) → AllBound start h past → AddsIn (commit_of e) → (u : UnitName) → Gifts (deliveries rows s (e ∷ past) u)
  unfolding Gifts
  gifts_there e past all new (Root path) = each_append (λ d. Each (IsBacked start h) d.parts) (deliveries_plain rows s past path) (plain_news (own_plain rows s past path) (subscriptions rows s past (Root path)) (deliveries_plain rows s past path) past (commit_of e))
      (all.handed (Root path)) (plain_gifts (own_plain rows s past path) (subscriptions rows s past (Root path)) (deliveries_plain rows s past path) past (commit_of e) all.parts new)
  gifts_there e past all new (Managed o n t) = each_append (λ d. Each (IsBacked start h) d.parts) (deliveries_instance rows s past o n t) (instance_news (fixed rows s past o n) n t (deliveries_instance rows s past o n t) past (commit_of e))
      (all.handed (Managed o n t)) (instance_gifts (fixed rows s past o n) n t (deliveries_instance rows s past o n t) past (commit_of e) all.parts new)

  none_handed : (u : UnitName) → Gifts (deliveries rows s [] u)
  unfolding Gifts
  none_handed (Root path) = tt
  none_handed (Managed o n t) = tt

  none_fixed : (o : List ℕ) → FixedIn start h o None
  none_fixed o = tt

  -- every entry keeps it
  pub all_bound : (past : List Entry) → Legal rows s past → IsUnaided past → AllBound start h past
  unfolding Gifts
  all_bound [] legal unaided = record {
    plain = root_there;
    fixed = λ o n. none_fixed o;
    instances = λ o n t. tt;
    parts = λ event. tt;
    handed = none_handed;
  }
  all_bound (e ∷ past) legal unaided =
      let all : AllBound start h past = all_bound past legal.0 unaided.0 in
      let new : AddsIn (commit_of e) = entry_adds past all e legal.1 unaided.1 in
      record {
        plain = λ path. either_there (InFamily start h path) (stepped rows (Root path) e (own_plain rows s past path)) (made_by rows e path (own_plain rows s past (maker_of path))) (stepped_bound past all e legal.1 (Root path)) (made_there past all e legal.1 path);
        fixed = fixed_there past all e;
        instances = λ o n t. either_there (InFamily start h o) (stepped rows (Managed o n t) e (own_instance rows s past o n t)) (born rows (fixed rows s past o n) t past (commit_of e)) (stepped_bound past all e legal.1 (Managed o n t)) (born_there past o (fixed rows s past o n) (all.fixed o n) t (commit_of e));
        parts = λ event. contents_there event (commit_of e) (contents past event) new (all.parts event);
        handed = gifts_there e past all new;
      }

  held_by : (path : List ℕ) (k : ℕ) (st : OwnState) (p : Privilege) → begins_with k path ≡ true → InFamily start h path st → names start p.tag ≡ true → holds st.held p ≡ true → h k p ≡ true
  held_by [] k st p of b named m = absurd b
  held_by (n ∷ path) k st p of b named m = subst (λ (x : ℕ). h x p ≡ true) (eqb-true n k of) (b.2.held p m named)

  -- what a unit of a root's family holds is in the relation
  pub all_held : (past : List Entry) → Legal rows s past → IsUnaided past → (u : UnitName) (k : ℕ) → is_of k u ≡ true → (st : OwnState) → own rows s past u ≡ Some st → (p : Privilege) → names start p.tag ≡ true → holds st.held p ≡ true → h k p ≡ true
  all_held past legal unaided u k of st mine p named m = held_by (path_of u) k st p of (let b : IfThere (InFamily start h (path_of u)) (own rows s past u) = unit_bound past (all_bound past legal unaided) u in rw mine at b) named m

-- who may not hold never holds
pub never : (start : Roots) (k : ℕ) (p : Privilege) → names start p.tag ≡ true → ¬ MayHold start k p → NeverHolds start k p
never start k p named may_not past u st legal unaided of mine = go (holds st.held p) refl
  where
    go : (b : Bool) → holds st.held p ≡ b → b ≡ false
    go true e = absurd (may_not (λ h closed. all_held start h closed past legal unaided u k of st mine p named e))
    go false e = refl
