-- What came of all workers of a round together.
use Rattle.df_workers.proofs.Names.{◌≡◌, ◌⊎◌, inl, inr, take, drop, ℕ, zero, suc, ◌%◌, ◌<◌, List, [], ◌∷◌, ◌++◌, true, false, refl, sym, ◌∙◌, ap, subst, Option, Some, None, length, arith, append-nil, append_assoc, is_some, reverse, slice_get, slice_index_or, reverse-append, IsPrefix, core_at, Origin, prefix_refl, prefix_trans, DeskId, IsFree, PassState, Brain, OwnState, Entry, UnitName, AreServed, HaveRun, IsServed, AreServedOf, Grew, HasWorked, UnlessOver, came_then, is_over, CameOf, Each, HasCame, HaveWorked, IsHired, IsRound, Came, Still, Moved, Full, NoMemory}
use Rattle.std.specs.Prelude.{All}
use Rattle.std.proofs.lemmas.Option.{get_or_from_slice_get, slice_get-get_or}
use Rattle.df_crew.proofs.Rolls.{placed}
use Rattle.df_machine.specs.Journal.{IsRoll, firsts}
use Rattle.df_rules.specs.Own.{exists, own}
use Rattle.df_rules.specs.Start.{rows}
use Rattle.df_rules.proofs.Growth.{grown_after, own_grows}
use Rattle.df_workers.specs.declared.worker.Worker.{Worker}
use Rattle.df_workers.proofs.Prefixed.{served_before, served_behind}
use Rattle.df_workers.proofs.Serving.{grew_before, grew_behind, unless_is, unless_then}

module _ {B : Type 0} where
  get_front : (xs ys : List (Worker B)) (k : ℕ) (w : Worker B) → slice_get xs k ≡ Some w → slice_get (xs ++ ys) k ≡ Some w
  get_front [] ys k w h = absurd (let z : ⊥ = cc in z)
  get_front (x ∷ xs) ys zero w h = h
  get_front (x ∷ xs) ys (suc k) w h = get_front xs ys k w h

  get_last : (xs : List (Worker B)) (w : Worker B) → slice_get (xs ++ w ∷ []) (length xs) ≡ Some w
  get_last [] w = refl
  get_last (x ∷ xs) w = get_last xs w

  each_more : (P : Worker B → Type 0) (w : Worker B) (ws : List (Worker B)) → P w → Each P ws → Each P (w ∷ ws)
  each_more P w ws p h zero v at = subst P (let z : w ≡ v = cc in z) p
  each_more P w ws p h (suc k) v at = h k v at

  each_map : (P Q : Worker B → Type 0) (ws : List (Worker B)) → ((w : Worker B) → P w → Q w) → Each P ws → Each Q ws
  each_map P Q ws f h k w at = f w (h k w at)

  here : (w : Worker B) (ws : List (Worker B)) (c : Came) → w.came ≡ c → HasCame (w ∷ ws) c
  here w ws c e = record { place = zero; worker = w; at = refl; is = e }

  there : (w : Worker B) (ws : List (Worker B)) (c : Came) → HasCame ws c → HasCame (w ∷ ws) c
  there w ws c h = record { place = suc h.place; worker = h.worker; at = h.at; is = h.is }

  abbrev goes_on : Worker B → Type 0
  goes_on w = is_over w.came ≡ false

  still_goes : (ws : List (Worker B)) → Each (λ w. w.came ≡ Still) ws → Each goes_on ws
  still_goes ws = each_map (λ w. w.came ≡ Still) goes_on ws (λ w e. ap is_over e)

  -- one worker more
  pub came_more : (w : Worker B) (ws : List (Worker B)) (c : Came) → CameOf ws c → CameOf (w ∷ ws) (came_then c w.came)
  came_more w ws c h = by c w.came refl h
    where
      by : (c d : Came) → w.came ≡ d → CameOf ws c → CameOf (w ∷ ws) (came_then c d)
      by Still Still e h = each_more (λ v. v.came ≡ Still) w ws e h
      by Still Moved e h = (each_more goes_on w ws (ap is_over e) (still_goes ws h), here w ws Moved e)
      by Still Full e h = here w ws Full e
      by Still NoMemory e h = tt
      by Moved Still e h = (each_more goes_on w ws (ap is_over e) h.0, there w ws Moved h.1)
      by Moved Moved e h = (each_more goes_on w ws (ap is_over e) h.0, here w ws Moved e)
      by Moved Full e h = here w ws Full e
      by Moved NoMemory e h = tt
      by Full Still e h = there w ws Full h
      by Full Moved e h = there w ws Full h
      by Full Full e h = here w ws Full e
      by Full NoMemory e h = tt
      by NoMemory d e h = tt

  some_at : (ws : List (Worker B)) (k : ℕ) → k < length ws → (w : Worker B) × (slice_get ws k ≡ Some w)
  some_at [] k h = absurd (let z : ⊥ = omega arith in z)
  some_at (w ∷ ws) zero h = (w, refl)
  some_at (w ∷ ws) (suc k) h = some_at ws k (let z : k < length ws = omega arith in z)

-- so many workers are left, and those behind them were joined
pub record IsGathering {B : Type 0} (desk : DeskId (Origin B)) (before : List Entry) (all left : List (Worker B)) (pass : PassState (Origin B) Entry)
    (came : Came) : Type 0 where
  pub free : IsFree desk pass
  pub frees : Each (λ w. IsFree desk w.pass) left
  pub begins : IsPrefix before pass.seen
  pub taken : List (Worker B)
  pub all_is : all ≡ left ++ taken
  pub each : Each (λ w. IsPrefix w.pass.seen pass.seen) taken
  pub came_is : CameOf taken came

module _ {B : Type 0} (desk : DeskId (Origin B)) (before : List Entry) (all : List (Worker B)) where
  pub gathering_first : (pass : PassState (Origin B) Entry) → IsFree desk pass → Each (λ w. IsFree desk w.pass) all → before ≡ pass.seen
      → IsGathering desk before all all pass Still
  gathering_first pass free frees is = record {
    free = free;
    frees = frees;
    begins = subst (λ (es : List Entry). IsPrefix before es) is (prefix_refl before);
    taken = [];
    all_is = sym (append-nil all);
    each = λ k w at. absurd (let z : ⊥ = cc in z);
    came_is = λ k w at. absurd (let z : ⊥ = cc in z);
  }

  -- the last of those that are left has a pass of the desk
  pub gathering_last : (left rest : List (Worker B)) (w : Worker B) (pass : PassState (Origin B) Entry) (came : Came)
      → IsGathering desk before all left pass came → left ≡ rest ++ w ∷ [] → IsFree desk w.pass
  gathering_last left rest w pass came g is = g.frees (length rest) w (ap (λ (ws : List (Worker B)). slice_get ws (length rest)) is ∙ get_last rest w)

  -- it is joined
  pub gathering_next : (left rest : List (Worker B)) (w : Worker B) (pass later : PassState (Origin B) Entry) (came : Came)
      → IsGathering desk before all left pass came → left ≡ rest ++ w ∷ [] →
      IsFree desk later → IsPrefix pass.seen later.seen → IsPrefix w.pass.seen later.seen → IsGathering desk before all rest later (came_then came w.came)
  gathering_next left rest w pass later came g is free longer own = record {
    free = free;
    frees = λ k v at. g.frees k v (ap (λ (ws : List (Worker B)). slice_get ws k) is ∙ get_front rest (w ∷ []) k v at);
    begins = prefix_trans before pass.seen later.seen g.begins longer;
    taken = w ∷ g.taken;
    all_is = g.all_is ∙ ap (λ (ws : List (Worker B)). ws ++ g.taken) is ∙ append_assoc rest (w ∷ []) g.taken;
    each = each_more (λ v. IsPrefix v.pass.seen later.seen) w g.taken own
        (each_map (λ v. IsPrefix v.pass.seen pass.seen) (λ v. IsPrefix v.pass.seen later.seen) g.taken
        (λ v p. prefix_trans v.pass.seen pass.seen later.seen p longer) g.each);
    came_is = came_more w g.taken came g.came_is;
  }

  module _ (left : List (Worker B)) (pass : PassState (Origin B) Entry) (came : Came) (g : IsGathering desk before all left pass came) (none : left ≡ []) where
    all_taken : g.taken ≡ all
    all_taken = sym (g.all_is ∙ ap (λ (ws : List (Worker B)). ws ++ g.taken) none)

    pub gathered_each : Each (λ w. IsPrefix w.pass.seen pass.seen) all
    gathered_each = subst (λ (ws : List (Worker B)). Each (λ w. IsPrefix w.pass.seen pass.seen) ws) all_taken g.each

    pub gathered_came : CameOf all came
    gathered_came = subst (λ (ws : List (Worker B)). CameOf ws came) all_taken g.came_is

-- who exists goes on to exist
pub exists_longer : (s : List OwnState) (a b : List Entry) → IsPrefix a b → (u : UnitName) → exists rows s (reverse a) u ≡ true
    → exists rows s (reverse b) u ≡ true
exists_longer s a b p u h = by (own rows s (reverse a) u) refl h
  where
    longer : reverse b ≡ reverse p.0 ++ reverse a
    longer = ap (λ (es : List Entry). reverse es) (sym p.1) ∙ reverse-append a p.0

    by : (o : Option OwnState) → own rows s (reverse a) u ≡ o → is_some o ≡ true → exists rows s (reverse b) u ≡ true
    by None e k = absurd (let z : ⊥ = cc in z)
    by (Some st) e k =
        let later = own_grows rows s grown_after (reverse p.0) (reverse a) u st e in
        ap (λ (es : List Entry). is_some (own rows s es u)) longer ∙ ap (λ (o : Option OwnState). is_some o) later.1

module _ {B : Type 0} (brain : Brain B) (o : Origin B) where
  pub all_before : (a b c : List Entry) → IsPrefix a b → AreServed brain o b c → AreServed brain o a c
  all_before a b c p all = λ u there. served_before brain o u a b c p (all u (exists_longer (firsts o.start) a b p u there))

  pub run_before : (max : ℕ) (a b c : List Entry) → IsPrefix a b → HaveRun brain o max b c → HaveRun brain o max a c
  run_before max a b c p (inl full) = inl full
  run_before max a b c p (inr all) = inr (all_before a b c p all)

pub get_below : {X : Type 0} (xs : List X) (k : ℕ) (x : X) → slice_get xs k ≡ Some x → k < length xs
get_below [] k x h = absurd (let z : ⊥ = cc in z)
get_below (y ∷ ys) zero x h = omega arith
get_below (y ∷ ys) (suc k) x h = let r = get_below ys k x h in omega (arith, r)

module _ {B : Type 0} (brain : Brain B) (desk : DeskId (Origin B)) (max workers : ℕ) (units : List UnitName) (olds news : List (Worker B)) where
  -- at each place, what a worker was before its work and is behind it
  pub have_worked : length news ≡ length olds → ((k : ℕ) (d : Worker B) → k < length olds →
      (a : Worker B) × (b : Worker B) × (a ≡ slice_index_or olds k d) × (b ≡ slice_index_or news k d) × HasWorked brain desk max workers units k a b)
      → HaveWorked brain desk max workers units olds news
  have_worked count each = record {
    count = count;
    each = λ k old new before after.
        let at = each k new (get_below olds k old before) in
        let from = at.2 ∙ get_or_from_slice_get olds k old new before in
        let to = at.3 ∙ get_or_from_slice_get news k new new after in
        subst (λ (w : Worker B). HasWorked brain desk max workers units k w new) from
        (subst (λ (w : Worker B). HasWorked brain desk max workers units k at.0 w) to at.4);
  }

-- the workers that were hired have worked
round_made : {B : Type 0} (brain : Brain B) (desk : DeskId (Origin B)) (max workers : ℕ) (units : List UnitName) (seen : List Entry)
    (olds news : List (Worker B)) → IsRoll (core_at desk.origin seen) units → HaveWorked brain desk max workers units olds news → 0 < workers
    → length olds ≡ workers → All (IsHired desk seen) olds → IsRound brain desk max workers seen news
round_made brain desk max workers units seen olds news roll have some count hired = record {
  units = units;
  roll = roll;
  some = some;
  count = have.count ∙ count;
  each = λ k w at.
      let below = get_below news k w at in
      let few : k < length olds = (let n = have.count in omega (arith, n, below)) in
      let old = slice_index_or olds k w in (old, (hired k w few).seen_is, have.each k old w (slice_get-get_or olds k w few) at);
}

-- a list that was written whole through a slice
written_whole : {X : Type 0} (xs ys : List X) (n : ℕ) → length xs ≡ length ys → length ys ≡ n → take n (xs ++ drop (length xs) ys) ≡ xs
written_whole [] [] zero e h = refl
written_whole [] [] (suc n) e h = refl
written_whole [] (y ∷ ys) n e h = absurd (let z : ⊥ = omega (arith, e) in z)
written_whole (x ∷ xs) [] n e h = absurd (let z : ⊥ = omega (arith, e) in z)
written_whole (x ∷ xs) (y ∷ ys) zero e h = absurd (let z : ⊥ = omega (arith, h) in z)
written_whole (x ∷ xs) (y ∷ ys) (suc n) e h = ap (λ (zs : List _). x ∷ zs) (written_whole xs ys n (omega (arith, e)) (omega (arith, h)))

-- they worked where they lie, for the units as they lie
pub round_there : {B : Type 0} (brain : Brain B) (desk : DeskId (Origin B)) (max workers : ℕ) (seen : List Entry) (units names : List UnitName)
    (olds news kept : List (Worker B)) (len : ℕ) → IsRoll (core_at desk.origin seen) names → units ≡ names
    → HaveWorked brain desk max workers units olds news → 0 < workers → olds ≡ kept → length kept ≡ len → len ≡ workers → All (IsHired desk seen) kept
    → IsRound brain desk max workers seen (take len (news ++ drop (length news) kept))
round_there brain desk max workers seen units names olds news kept len roll read have some same whole count hired =
    subst (IsRound brain desk max workers seen) (sym (written_whole news kept len (have.count ∙ ap (λ (ws : List (Worker _)). length ws) same) whole))
    (round_made brain desk max workers units seen olds news (subst (IsRoll (core_at desk.origin seen)) (sym read) roll) have some
    (ap (λ (ws : List (Worker _)). length ws) same ∙ whole ∙ count) (subst (All (IsHired desk seen)) (sym same) hired))

module _ {B : Type 0} (brain : Brain B) (desk : DeskId (Origin B)) (max workers : ℕ) (seen : List Entry) (all : List (Worker B))
    (r : IsRound brain desk max workers seen all) where
  pub round_free : Each (λ w. IsFree desk w.pass) all
  round_free = λ k w at. (r.each k w at).2.free

  module _ (after : List Entry) (each : Each (λ w. IsPrefix w.pass.seen after) all) where
    one_grew : (k : ℕ) (w : Worker B) (c : Came) → slice_get all k ≡ Some w → w.came ≡ c → Grew max c seen after
    one_grew k w c at is =
        let own = r.each k w at in
        let grew = subst (λ (x : Came). Grew max x own.0.pass.seen w.pass.seen) is own.2.grew in
        grew_behind max c seen w.pass.seen after (each k w at) (subst (λ (es : List Entry). Grew max c es w.pass.seen) own.1 grew)

    all_served : ((k : ℕ) (w : Worker B) → slice_get all k ≡ Some w → is_over w.came ≡ false) → AreServed brain desk.origin seen after
    all_served going = λ u there.
        let spot = placed r.units u (r.roll.units u ∙ there) in
        let number = spot.0 % workers in
        let w = some_at all number (let n = r.count in let s = r.some in let z : number < length all = omega (arith, n, s) in z) in
        let own = r.each number w.0 w.1 in
        let served = unless_is {P = AreServedOf brain desk.origin workers number r.units own.0.pass.seen w.0.pass.seen} w.0.came (going number w.0 w.1)
        own.2.served spot.0 u spot.1 refl in
        served_behind brain desk.origin u seen w.0.pass.seen after
        (subst (λ (es : List Entry). IsServed brain desk.origin u es w.0.pass.seen) own.1 served) (each number w.0 w.1)

    all_grew : (came : Came) → CameOf all came → Grew max came seen after
    all_grew Still h = tt
    all_grew Moved h = let own = h.1 in one_grew own.place own.worker Moved own.at own.is
    all_grew Full h = one_grew h.place h.worker Full h.at h.is
    all_grew NoMemory h = tt

    unless_served : (came : Came) → CameOf all came → UnlessOver came (AreServed brain desk.origin seen after)
    unless_served Still h = all_served (still_goes all h)
    unless_served Moved h = all_served h.0
    unless_served Full h = tt
    unless_served NoMemory h = tt

    module _ (before : List Entry) (p : IsPrefix before seen) (came : Came) (of : CameOf all came) where
      pub round_grew : Grew max came before after
      round_grew = grew_before max came before seen after p (all_grew came of)

      pub round_served : UnlessOver came (AreServed brain desk.origin before after)
      round_served = unless_then Still came refl (all_before brain desk.origin before seen after p) (unless_served came of)

-- behind the last round
pub run_done : {B : Type 0} (brain : Brain B) (o : Origin B) (max : ℕ) (before seen after : List Entry) (came : Came) → IsPrefix before seen
    → (came ≡ Still) ⊎ (came ≡ Full) → Grew max came seen after →
    UnlessOver came (AreServed brain o seen after) → HaveRun brain o max before after
run_done brain o max before seen after came p (inl e) g u = inr
    (all_before brain o before seen after p (subst (λ (c : Came). UnlessOver c (AreServed brain o seen after)) e u))
run_done brain o max before seen after came p (inr e) g u = inl (subst (λ (c : Came). Grew max c seen after) e g)
