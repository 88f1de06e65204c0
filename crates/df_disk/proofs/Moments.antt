-- How a run of calls of a disk goes on.
use Rattle.std.proofs.Common.{inl, inr, ⊎_elim, ℕ, ◌≤◌, List, arith}
use Rattle.df_disk.specs.Disk.{Elapses, LeavesOnly, NoMore, Recedes}

module _ {D : Type 0} (moment : D → ℕ) (left_since : D → ℕ → List ℕ → Type 0) where
  -- before the first call
  pub started : (old : D) (P : List ℕ → Type 0) → ((c : List ℕ) → left_since old (moment old) c → P c) → LeavesOnly moment left_since old old P
  started old P here = record { later = omega arith; each = here; before = λ t c le left. inl left }

  -- one call more, after which a crash leaves what has P
  pub goes_on : (old mid new : D) (P may_leave : List ℕ → Type 0) → LeavesOnly moment left_since old mid P
      → Elapses (moment mid) (moment new) (left_since mid) (left_since new) may_leave
      → ((c : List ℕ) → may_leave c → P c) → LeavesOnly moment left_since old new P
  goes_on old mid new P may_leave so_far time here = record {
    later = omega (arith, so_far.later, time.later);
    each = λ c left. ⊎_elim (so_far.each c) (here c) (time.nothing_else (moment old) c so_far.later left);
    before = λ t c le left. ⊎_elim (so_far.before t c le) (λ now. inr (here c now)) (time.nothing_else t c (omega (arith, le, so_far.later)) left);
  }

  -- a call that wrote nothing
  pub recedes : (old new : D) (may_leave may_leave_now : List ℕ → Type 0) → Elapses (moment old) (moment new) (left_since old) (left_since new) may_leave_now
      → NoMore may_leave may_leave_now → ((t : ℕ) (c : List ℕ) → t ≤ moment old → may_leave c → left_since old t c)
      → Recedes (moment old) (moment new) (left_since old) (left_since new)
  recedes old new may_leave may_leave_now time no_more counts = record {
    later = time.later;
    nothing_new = λ t c le left. ⊎_elim (λ was. was) (λ now. counts t c le (no_more c now)) (time.nothing_else t c le left);
  }

  pub recedes_on : (old mid new : D) → Recedes (moment old) (moment mid) (left_since old) (left_since mid)
      → Recedes (moment mid) (moment new) (left_since mid) (left_since new) → Recedes (moment old) (moment new) (left_since old) (left_since new)
  recedes_on old mid new first second = record {
    later = omega (arith, first.later, second.later);
    nothing_new = λ t c le left. first.nothing_new t c le (second.nothing_new t c (omega (arith, le, first.later)) left);
  }

  pub recedes_not : (old : D) → Recedes (moment old) (moment old) (left_since old) (left_since old)
  recedes_not old = record { later = omega arith; nothing_new = λ t c le left. left }
