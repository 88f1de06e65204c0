-- What came of the steps of a unit, and of the units of a worker, so far.
use Rattle.df_workers.proofs.Names.{◌≡◌, ◌⊎◌, inl, inr, ℕ, ◌+◌, ◌%◌, ◌<◌, ◌≤◌, List, true, false, refl, sym, ap, subst, Some, length, arith, slice_get, IsPrefix, IsBegun, core_at, Origin, prefix_refl, prefix_trans, DeskId, IsFree, PassState, Brain, TurnState, Entry, UnitName, HasMoved, IsServed, Grew, IsFirst, IsNext, UnlessOver, came_then, is_over, Came, Still, Moved, Full, NoMemory, Goes, Ends}
use Rattle.df_workers.proofs.Prefixed.{moved_before, prefix_length, served_before, served_behind}

pub grew_before : (max : ℕ) (c : Came) (x y z : List Entry) → IsPrefix x y → Grew max c y z → Grew max c x z
grew_before max Still x y z p g = tt
grew_before max Moved x y z p g = let k = prefix_length x y p in (
  (let a = g.0 in let w : length x < max = omega (arith, k, a) in w),
  (let b = g.1 in let w : length x < length z = omega (arith, k, b) in w),
)
grew_before max Full x y z p g = g
grew_before max NoMemory x y z p g = tt

pub grew_behind : (max : ℕ) (c : Came) (x y z : List Entry) → IsPrefix y z → Grew max c x y → Grew max c x z
grew_behind max Still x y z p g = tt
grew_behind max Moved x y z p g = let k = prefix_length y z p in (g.0, (let b = g.1 in let w : length x < length z = omega (arith, k, b) in w))
grew_behind max Full x y z p g = let k = prefix_length y z p in let w : max ≤ length z = omega (arith, k, g) in w
grew_behind max NoMemory x y z p g = tt

-- steps, and others behind them
pub grew_then : (max : ℕ) (a b : Came) (x y z : List Entry) → is_over a ≡ false → IsPrefix x y → IsPrefix y z → Grew max a x y → Grew max b y z
    → Grew max (came_then a b) x z
grew_then max Still b x y z over p q g h = grew_before max b x y z p h
grew_then max Moved Still x y z over p q g h = grew_behind max Moved x y z q g
grew_then max Moved Moved x y z over p q g h = grew_behind max Moved x y z q g
grew_then max Moved Full x y z over p q g h = h
grew_then max Moved NoMemory x y z over p q g h = tt
grew_then max Full b x y z over p q g h = absurd (let w : ⊥ = cc in w)
grew_then max NoMemory b x y z over p q g h = absurd (let w : ⊥ = cc in w)

pub over_then : (a b : Came) → is_over a ≡ false → is_over b ≡ false → is_over (came_then a b) ≡ false
over_then Still b h k = k
over_then Moved Still h k = refl
over_then Moved Moved h k = refl
over_then Moved Full h k = k
over_then Moved NoMemory h k = k
over_then Full b h k = absurd (let w : ⊥ = cc in w)
over_then NoMemory b h k = absurd (let w : ⊥ = cc in w)

pub unless_then : {P Q : Type 0} (a b : Came) → is_over a ≡ false → (P → Q) → UnlessOver b P → UnlessOver (came_then a b) Q
unless_then Still Still h f u = f u
unless_then Still Moved h f u = f u
unless_then Still Full h f u = tt
unless_then Still NoMemory h f u = tt
unless_then Moved Still h f u = f u
unless_then Moved Moved h f u = f u
unless_then Moved Full h f u = tt
unless_then Moved NoMemory h f u = tt
unless_then Full b h f u = absurd (let w : ⊥ = cc in w)
unless_then NoMemory b h f u = absurd (let w : ⊥ = cc in w)

pub unless_going : {P : Type 0} (a : Came) → P → UnlessOver a P
unless_going Still p = p
unless_going Moved p = p
unless_going Full p = tt
unless_going NoMemory p = tt

pub unless_is : {P : Type 0} (a : Came) → is_over a ≡ false → UnlessOver a P → P
unless_is Still h p = p
unless_is Moved h p = p
unless_is Full h p = absurd (let w : ⊥ = cc in w)
unless_is NoMemory h p = absurd (let w : ⊥ = cc in w)

-- so many steps of a unit were made, and the worker goes on with this turn
pub record IsServing {B : Type 0} (brain : Brain B) (desk : DeskId (Origin B)) (max : ℕ) (u : UnitName) (before : List Entry) (made : ℕ)
    (pass : PassState (Origin B) Entry) (turn : TurnState B) (came : Came) : Type 0 where
  pub free : IsFree desk pass
  pub begins : IsPrefix before pass.seen
  pub begun : IsBegun brain desk.origin.brains (core_at desk.origin pass.seen) u turn
  pub grew : Grew max came before pass.seen
  pub going : is_over came ≡ false
  pub moved : (made ≡ 0) ⊎ HasMoved u before pass.seen

module _ {B : Type 0} (brain : Brain B) (desk : DeskId (Origin B)) (max : ℕ) (u : UnitName) where
  abbrev o : Origin B
  o = desk.origin

  pub serving_first : (before : List Entry) (pass : PassState (Origin B) Entry) (t : TurnState B) (came : Came) → IsFree desk pass → IsPrefix before pass.seen
      → IsFirst brain o u pass.seen (Goes t came) →
      IsServing brain desk max u before 0 pass t came
  serving_first before pass t came free p (begun, is) = record {
    free = free;
    begins = p;
    begun = begun;
    grew = subst (λ (c : Came). Grew max c before pass.seen) (sym is) tt;
    going = ap is_over is;
    moved = inl refl;
  }

  -- without a turn no step is made
  pub first_ends : (before seen : List Entry) → IsPrefix before seen → (came : Came) → IsFirst brain o u seen (Ends came)
      → Grew max came before seen × UnlessOver came (IsServed brain o u before seen)
  first_ends before seen p Still h = (tt, inr (record { journal = seen; from = p; to = prefix_refl seen; resting = h }))
  first_ends before seen p Moved h = absurd h
  first_ends before seen p Full h = absurd h
  first_ends before seen p NoMemory h = (tt, tt)

  module _ (before : List Entry) (made : ℕ) (pass later : PassState (Origin B) Entry) (t : TurnState B) (came : Came)
      (s : IsServing brain desk max u before made pass t came) (free : IsFree desk later)
      (p : IsPrefix pass.seen later.seen) where
    pub serving_next : (next : TurnState B) (of : Came) → IsNext brain o max u pass.seen later.seen (Goes next of)
        → IsServing brain desk max u before (made + 1) later next (came_then came of)
    serving_next next of (begun, moved, grew, going) = record {
      free = free;
      begins = prefix_trans before pass.seen later.seen s.begins p;
      begun = begun;
      grew = grew_then max came of before pass.seen later.seen s.going s.begins p s.grew grew;
      going = over_then came of s.going going;
      moved = inr (moved_before u before pass.seen later.seen s.begins moved);
    }

    pub serving_ends : (of : Came) → IsNext brain o max u pass.seen later.seen (Ends of)
        → Grew max (came_then came of) before later.seen × UnlessOver (came_then came of) (IsServed brain o u before later.seen)
    serving_ends of (served, grew) = (
      grew_then max came of before pass.seen later.seen s.going s.begins p s.grew grew,
      unless_then came of s.going (served_before brain o u before pass.seen later.seen s.begins) served,
    )

  -- after the last step the unit has been served
  pub serving_done : (before : List Entry) (made : ℕ) (pass : PassState (Origin B) Entry) (t : TurnState B) (came : Came)
      → IsServing brain desk max u before made pass t came → 0 < made → UnlessOver came (IsServed brain o u before pass.seen)
  serving_done before made pass t came s some = unless_going came (by s.moved)
    where
      by : ((made ≡ 0) ⊎ HasMoved u before pass.seen) → IsServed brain o u before pass.seen
      by (inl e) = absurd (let z : ⊥ = omega (arith, e, some) in z)
      by (inr m) = inl m

-- a worker has served its units up to a place
pub record IsSharing {B : Type 0} (brain : Brain B) (desk : DeskId (Origin B)) (max workers number : ℕ) (units : List UnitName) (before : List Entry)
    (place : ℕ) (pass : PassState (Origin B) Entry) (came : Came) : Type 0 where
  pub free : IsFree desk pass
  pub begins : IsPrefix before pass.seen
  pub grew : Grew max came before pass.seen
  pub going : is_over came ≡ false
  pub served : (k : ℕ) (u : UnitName) → k < place → slice_get units k ≡ Some u → k % workers ≡ number → IsServed brain desk.origin u before pass.seen

module _ {B : Type 0} (brain : Brain B) (desk : DeskId (Origin B)) (max workers number : ℕ) (units : List UnitName) (before : List Entry) where
  pub sharing_first : (pass : PassState (Origin B) Entry) → IsFree desk pass → before ≡ pass.seen
      → IsSharing brain desk max workers number units before 0 pass Still
  sharing_first pass free is = record {
    free = free;
    begins = subst (λ (es : List Entry). IsPrefix before es) is (prefix_refl before);
    grew = tt;
    going = refl;
    served = λ k u few at own. absurd (let z : ⊥ = omega (arith, few) in z);
  }

  module _ (place : ℕ) (pass : PassState (Origin B) Entry) (came : Came) (s : IsSharing brain desk max workers number units before place pass came) where
    -- the unit at the next place is another worker's
    pub sharing_passed : ¬ (place % workers ≡ number) → IsSharing brain desk max workers number units before (place + 1) pass came
    sharing_passed other = record {
      free = s.free;
      begins = s.begins;
      grew = s.grew;
      going = s.going;
      served = λ k u few at own. elim (split k few) [
        | inl less ↦ s.served k u less at own
        | inr here ↦ absurd (other (subst (λ (j : ℕ). j % workers ≡ number) here own))
      ];
    }
      where
        split : (k : ℕ) → k < place + 1 → (k < place) ⊎ (k ≡ place)
        split k few = grind arith

    module _ (u : UnitName) (at : slice_get units place ≡ Some u) (later : PassState (Origin B) Entry) (of : Came) (free : IsFree desk later)
        (p : IsPrefix pass.seen later.seen) (grew : Grew max of pass.seen later.seen)
        (served : UnlessOver of (IsServed brain desk.origin u pass.seen later.seen)) where
      all_grew : Grew max (came_then came of) before later.seen
      all_grew = grew_then max came of before pass.seen later.seen s.going s.begins p s.grew grew

      -- it was served, and the worker goes on
      pub sharing_served : is_over (came_then came of) ≡ false → is_over of ≡ false
          → IsSharing brain desk max workers number units before (place + 1) later (came_then came of)
      sharing_served going on = record {
        free = free;
        begins = prefix_trans before pass.seen later.seen s.begins p;
        grew = all_grew;
        going = going;
        served = λ k v few here own. elim (split k few) [
          | inl less ↦ served_behind brain desk.origin v before pass.seen later.seen (s.served k v less here own) p
          | inr is ↦ (let same : u ≡ v = (let e = subst (λ (j : ℕ). slice_get units j ≡ Some v) is here in let f = at in cc) in
              subst (λ (w : UnitName). IsServed brain desk.origin w before later.seen) same
              (served_before brain desk.origin u before pass.seen later.seen s.begins (unless_is of on served)))
        ];
      }
        where
          split : (k : ℕ) → k < place + 1 → (k < place) ⊎ (k ≡ place)
          split k few = grind arith

      -- it was the last one
      pub sharing_over : is_over (came_then came of) ≡ true → Grew max (came_then came of) before later.seen × ((P : Type 0) → UnlessOver (came_then came of) P)
      sharing_over over = (all_grew, λ P. by P (came_then came of) over)
        where
          by : (P : Type 0) (c : Came) → is_over c ≡ true → UnlessOver c P
          by P Still h = absurd (let z : ⊥ = cc in z)
          by P Moved h = absurd (let z : ⊥ = cc in z)
          by P Full h = tt
          by P NoMemory h = tt

pub then_over : (a b : Came) → is_over a ≡ false → is_over (came_then a b) ≡ false → is_over b ≡ false
then_over Still b h k = k
then_over Moved Still h k = refl
then_over Moved Moved h k = refl
then_over Moved Full h k = k
then_over Moved NoMemory h k = k
then_over Full b h k = absurd (let w : ⊥ = cc in w)
then_over NoMemory b h k = absurd (let w : ⊥ = cc in w)
