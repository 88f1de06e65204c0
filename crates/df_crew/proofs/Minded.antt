-- The brains of a crew as it starts, and that who exists has a brain, and is still where it waits.
use Rattle.df_crew.proofs.Names.{◌≡◌, ℕ, zero, suc, List, [], ◌∷◌, Bool, true, false, refl, sym, ◌∙◌, ap, subst, cond, Option, Some, None, length, map, arith, Bor, Result, Ok, Err, IsSome, OnErr, OnOk, is_some, option_copied, option_map, option_or, CrewState, mind_in, want_by, IsFollowed, IsManned, IsMind, seed_name, asked_by, is_local_want, turn_of, turned, IsUnderWay, shared_of, turned_is, KeptState, kept_at, maker_of, number_of, LocalState, State, firsts, has_delivery_in, local_of, Brain, Follows, Last, Wait, Want, began_with, replies_of, root_began, wanted, made_by, own, own_plain, root_at, stepped, rows, RootStart, IsEnded, IsGoing, OwnState, after, Entry, Done, Emitted, UnitName, Managed, Root}
use Rattle.std.proofs.Common.{slice_get}
use Rattle.df_brain.specs.Brain.{is_child_wanted}
use Rattle.df_booking.proofs.Acting.{own_of}
use Rattle.df_booking.proofs.Brained.{fixed_counted, makes_none}
use Rattle.df_booking.proofs.Entries.{recorded, some_is}
use Rattle.df_machine.specs.Booking as machine
use Rattle.df_turn.specs.Locally.{most_local}
use Rattle.df_turn.specs.declared.going.Going.{Going}
use Rattle.df_unit.specs.Name.{same}

long : (xs : List RootStart) → length (map Rattle.df_start.specs.Begun.begun xs) ≡ length xs
long [] = refl
long (x ∷ xs) = ap suc (long xs)

there : (core : State) (u : UnitName) → is_some (local_of core u) ≡ true → (st : OwnState) × (own rows (firsts core.0) core.1 u ≡ Some st)
there core u h = by (own rows (firsts core.0) core.1 u) refl h
  where
    by : (o : Option OwnState) → own rows (firsts core.0) core.1 u ≡ o
        → is_some (option_map (λ (st : OwnState). let x : LocalState = record { unit = u; own = st } in x) o) ≡ true
        → (st : OwnState) × (own rows (firsts core.0) core.1 u ≡ Some st)
    by None e k = absurd (let z : ⊥ = cc in z)
    by (Some st) e k = (st, e)

module _ {B : Type 0} (brain : Brain B) where
  pub manned_start : (start : List RootStart) (bs : List B) (kept : KeptState (B × Last)) (begun : KeptState B) → length bs ≡ length start
      → ((u : UnitName) → kept_at u kept ≡ None) →
      IsManned brain bs kept begun (start, [])
  manned_start start bs kept begun rooted none = record {
    followed = record { legal = tt; unaided = tt; follows = tt };
    minds = λ u. subst (λ (o : Option (B × Last)). IsMind brain bs (start, []) u o) (sym (none u)) refl;
    seeds = λ o n f h. absurd (let z : ⊥ = cc in z);
    rooted = rooted;
  }

  -- where no brain wants to make a unit, only roots and instances exist
  plain_root : ((b : B) (l : Last) → is_child_wanted (brain.next b l).0 ≡ false) → (s : List OwnState) (bs : List B) (past : List Entry)
      → Follows brain rows s bs past → (path : List ℕ) → root_at s path ≡ None →
      own_plain rows s past path ≡ None
  plain_root law s bs [] follows path h = h
  plain_root law s bs (Emitted c ∷ past) follows path h = ap (λ (x : Option OwnState). option_or x None) (plain_root law s bs past follows.0 path h)
  plain_root law s bs (Done a c r f ∷ past) follows path h =
      ap (λ (x : Option OwnState). option_or (stepped rows (Root path) (Done a c r f) x)
      (made_by rows (Done a c r f) path (own_plain rows s past (maker_of path)))) (plain_root law s bs past follows.0 path h)
      ∙ ap (λ (x : Option OwnState). option_or x (made_by rows (Done a c r f) path (own_plain rows s past (maker_of path)))) (nobody (same a (Root path)))
      ∙ makes_none brain law s bs past a c r f follows.1 (same a (Root (maker_of path))) (own_plain rows s past (maker_of path)) (number_of path)
    where
      nobody : (b : Bool) → cond b (option_map (λ st. after (Root path) st c r f) None) None ≡ (let x : Option OwnState = None in x)
      nobody true = refl
      nobody false = refl

  get_both : {A C : Type 0} (f : A → C) (xs : List A) (bs : List B) (k : ℕ) → length bs ≡ length xs → slice_get bs k ≡ None → slice_get (map f xs) k ≡ None
  get_both f [] bs k e h = refl
  get_both f (x ∷ xs) [] k e h = absurd (let z : ⊥ = omega arith in z)
  get_both f (x ∷ xs) (b ∷ bs) zero e h = absurd (let z : ⊥ = cc in z)
  get_both f (x ∷ xs) (b ∷ bs) (suc k) e h = get_both f xs bs k (let z : length bs ≡ length xs = omega arith in z) h

module _ {B : Type 0} (brain : Brain B) (law : (b : B) (l : Last) → is_child_wanted (brain.next b l).0 ≡ false) (bs : List B) (kept : KeptState (B × Last))
    (begun : KeptState B) (core : State)
    (manned : IsManned brain bs kept begun core) where
  -- a plain unit that exists has a brain
  root_there : (o : List ℕ) (st : OwnState) → own_plain rows (firsts core.0) core.1 o ≡ Some st → (x : B) × (root_began bs o ≡ Some x)
  root_there o st h = by o (plain_root brain law (firsts core.0) bs core.1 manned.followed.follows o) h
    where
      by : (o : List ℕ) → (root_at (firsts core.0) o ≡ None → own_plain rows (firsts core.0) core.1 o ≡ None)
          → own_plain rows (firsts core.0) core.1 o ≡ Some st → (x : B) × (root_began bs o ≡ Some x)
      by [] none k = let y = none refl in absurd (let z : ⊥ = cc in z)
      by (n ∷ m ∷ path) none k = let y = none refl in absurd (let z : ⊥ = cc in z)
      by (n ∷ []) none k = go (slice_get bs n) refl
        where
          go : (x : Option B) → slice_get bs n ≡ x → (y : B) × (slice_get bs n ≡ Some y)
          go (Some y) e = (y, e)
          go None e =
              let length_is : length bs ≡ length (map Rattle.df_start.specs.Begun.begun core.0) = manned.rooted ∙ sym (long core.0) in
              let y = none (get_both brain Rattle.df_rules.specs.Start.root_of (map Rattle.df_start.specs.Begun.begun core.0) bs n length_is e) in absurd
              (let z : ⊥ = cc in z)

  -- the brain of an instance that exists began as is kept
  pub seed_began : (o : List ℕ) (n : ℕ) (t : List (List ℕ)) → is_some (local_of core (Managed o n t)) ≡ true →
      kept_at (seed_name o n) begun ≡ began_with brain rows (firsts core.0) bs core.1 (Managed o n t)
  seed_began o n t h =
      let st = there core (Managed o n t) h in
      let fx = recorded (firsts core.0) core.1 o n t st.0 st.1 in
      manned.seeds o n fx.0 fx.1

  -- who exists has a brain
  pub begun_there : (u : UnitName) → is_some (local_of core u) ≡ true → is_some (began_with brain rows (firsts core.0) bs core.1 u) ≡ true
  begun_there (Root path) h =
      let st = there core (Root path) h in
      let x = root_there path st.0 st.1 in
      some_is (root_began bs path) x.0 x.1
  begun_there (Managed o n t) h =
      let st = there core (Managed o n t) h in
      let fx = recorded (firsts core.0) core.1 o n t st.0 st.1 in
      let owner = fixed_counted (firsts core.0) core.1 manned.followed.legal o n fx.0 fx.1 in
      let x = root_there o owner.0 owner.1 in
      ap (λ (y : Option B). is_some
      (option_map (λ x. brain.instance
      (wanted brain x (replies_of (Root o) (Rattle.df_rules.specs.Exercised.before_fixed rows (firsts core.0) core.1 o n))).1 n) y)) x.1

module _ {B : Type 0} (brain : Brain B) (bs : List B) (kept : KeptState (B × Last)) (begun : KeptState B) (core : State)
    (manned : IsManned brain bs kept begun core) (u : UnitName) where
  -- what is kept of a unit is its brain
  pub kept_mind : (m : B × Last) → kept_at u kept ≡ Some m → mind_in brain bs core u ≡ Some m
  kept_mind m h = (subst (λ (o : Option (B × Last)). IsMind brain bs core u o) h (manned.minds u)).1

  -- a unit of which nothing is kept was told nothing
  pub none_told : kept_at u kept ≡ None → replies_of u core.1 ≡ []
  none_told h = subst (λ (o : Option (B × Last)). IsMind brain bs core u o) h (manned.minds u)

some_of : {A : Type 0} (o : Option (Bor A)) (x : Option A) → option_copied o ≡ x → is_some x ≡ true → IsSome o
some_of (Some b) x e h = refl
some_of None x e h = absurd (let z : ⊥ = (let y = ap is_some e in cc) in z)

-- who exists has a brain, where it is looked for
pub found_there : {B : Type 0} (brain : Brain B) → ((b : B) (l : Last) → is_child_wanted (brain.next b l).0 ≡ false)
    → (bs : List B) (kept : KeptState (B × Last)) (begun : KeptState B) (core : State) → IsManned brain bs kept begun core →
    (u : UnitName) → is_some (local_of core u) ≡ true → (o : Option (Bor B)) → option_copied o ≡ began_with brain rows (firsts core.0) bs core.1 u → IsSome o
found_there brain law bs kept begun core manned u h o e = some_of o (began_with brain rows (firsts core.0) bs core.1 u) e
    (begun_there brain law bs kept begun core manned u h)

-- a turn has room for a local call
most_some : (n : ℕ) × (most_local ≡ suc n)
unfolding most_local
most_some = (1_023, refl)

-- a unit that waits, with no delivery left, does nothing
pub still_waiting : {B : Type 0} (brain : Brain B) (crew : CrewState B) (u : UnitName) (m : B × Last) → mind_in brain crew.brains crew.core u ≡ Some m
    → (brain.next m.0 m.1).0 ≡ Wait →
    has_delivery_in crew.core u ≡ false → turned brain u crew ≡ crew
still_waiting brain crew u m mind waits none =
    ap (λ (n : ℕ). record crew { core = turn_of brain crew.brains n u crew.core }) most_some.1
    ∙ ap (λ (w : Option Want). record crew
    { core = cond (is_local_want w) (turn_of brain crew.brains most_some.0 u (asked_by crew.core u w)) (asked_by crew.core u w) })
    (ap (want_by brain (own rows (firsts crew.core.0) crew.core.1 u)) mind)
    ∙ by (own rows (firsts crew.core.0) crew.core.1 u)
  where
    none_asked : cond (has_delivery_in crew.core u) (Rattle.df_machine.specs.Journal.appended u Rattle.df_unit.specs.declared.call.Call.TheVariants.Get crew.core) crew.core ≡ crew.core
    none_asked = ap (λ (b : Bool). cond b (Rattle.df_machine.specs.Journal.appended u Rattle.df_unit.specs.declared.call.Call.TheVariants.Get crew.core)
        crew.core) none

    by : (o : Option OwnState) → (let w : Option Want = want_by brain o (Some m) in
        record crew { core = cond (is_local_want w) (turn_of brain crew.brains most_some.0 u (asked_by crew.core u w)) (asked_by crew.core u w) }) ≡ crew
    by None = refl
    by (Some st) = ap (λ (w : Want). record crew
        { core = cond (is_local_want (Some w)) (turn_of brain crew.brains most_some.0 u (asked_by crew.core u (Some w))) (asked_by crew.core u (Some w)) })
        waits
        ∙ ap (λ (k : State). record crew { core = k }) none_asked

-- a turn that began from a unit and its brain is under way
pub begun_under_way : {B : Type 0} (brain : Brain B) (bs : List B) (core : State) (u : UnitName) (l : LocalState) (m : B × Last) (g : Going B) → local_of core u ≡ Some l → mind_in brain bs core u ≡ Some m →
    g.run.base ≡ l → IsGoing brain m g → IsUnderWay brain bs m g core × (g.run.base.unit ≡ u)
begun_under_way brain bs core u l m g here mind base going =
    let named : l.unit ≡ u = (own_of core u l here).1 in
    let of_unit : g.run.base.unit ≡ u = ap (λ (x : LocalState). x.unit) base ∙ named in (
      record {
        going = going;
        unit = subst (λ (v : UnitName). local_of core v ≡ Some g.run.base) (sym of_unit) (here ∙ ap (λ (x : LocalState). Some x) (sym base));
        mind = subst (λ (v : UnitName). mind_in brain bs core v ≡ Some m) (sym of_unit) mind;
      },
      of_unit,
    )

-- and so is one that began from the brain that is kept
pub kept_under_way : {B : Type 0} (brain : Brain B) (bs : List B) (kept : KeptState (B × Last)) (begun : KeptState B) (core : State) → IsManned brain bs kept begun core → (u : UnitName) (l : LocalState)
    (m : B × Last) (g : Going B) → kept_at u kept ≡ Some m → Some l ≡ local_of core u → g.run.base ≡ l → IsGoing brain m g → IsUnderWay brain bs m g core × (g.run.base.unit ≡ u)
kept_under_way brain bs kept begun core manned u l m g at here base going =
    begun_under_way brain bs core u l m g (sym here) (kept_mind brain bs kept begun core manned u m at) base going

-- where a turn is booked, it is its unit's
pub booked_ok : {B T E : Type 0} (brain : Brain B) (core : State) (bs : List B) (crew : CrewState B) → (let x : CrewState B = record { core = core; brains = bs } in x) ≡ crew → (m : B × Last) (g : Going B) →
    IsUnderWay brain bs m g core → IsFollowed brain bs core → IsEnded g → (k : State) (r : Result T E) → OnOk r (k ≡ machine.booked g.run (shared_of g core) core) →
    OnOk r ((let x : CrewState B = record { core = k; brains = bs } in x) ≡ turned brain g.run.base.unit crew)
booked_ok brain core bs crew view m g under followed ended k (Ok x) is = turned_is brain core bs crew view m g under followed ended k is
booked_ok brain core bs crew view m g under followed ended k (Err e) is = tt
