-- The first gate, call by call.
use Rattle.std.proofs.Common.{◌≡◌, ℕ, ◌<◌, ◌≤◌, List, [], ◌∷◌, length, drop, Option, Some, None, refl, sym, ◌∙◌, ap, subst, arith}
use Rattle.std.specs.Prelude.{IfSome, option_map}
use Rattle.df_disk.specs.Disk.{Elapses, Follows, IsSettled, LeavesOnly, NoMore, Only, Torn, overwritten}
use Rattle.df_disk.specs.Records.{IsAtRest, IsEmpty}
use Rattle.df_disk.proofs.Crash.{first_closed, short_empty}
use Rattle.df_disk.proofs.Moments.{goes_on, started}

-- what holds of each image that is told
pub if_told : {X : Type 0} (told : Option (List ℕ)) → ((image : List ℕ) → told ≡ Some image → X) → IfSome told (λ _. X)
if_told None f = tt
if_told (Some image) f = f image refl

pub at_told : (P : List ℕ → Type 0) (told : Option (List ℕ)) (image : List ℕ) → told ≡ Some image → IfSome told P → P image
at_told P told image is h = subst (λ (o : Option (List ℕ)). IfSome o P) is h

module _ {D : Type 0} (told : D → Option (List ℕ)) (may_leave : D → List ℕ → Type 0) (moment : D → ℕ) (left_since : D → ℕ → List ℕ → Type 0)
    (only_now : (disk : D) (c : List ℕ) → left_since disk (moment disk) c → may_leave disk c)
    (old : D) (image : List ℕ) (tells : told old ≡ Some image) (empty : IfSome (told old) IsEmpty) (settled : IsSettled (told old) (may_leave old)) where
  is_empty : IsEmpty image
  is_empty = at_told IsEmpty (told old) image tells empty

  only : Only image (may_leave old)
  only = subst (λ (o : Option (List ℕ)). IsSettled o (may_leave old)) tells settled

  stays_empty : (c : List ℕ) → may_leave old c → IsEmpty c
  stays_empty c now = subst IsEmpty (sym (only c now)) is_empty

  pub at_start : LeavesOnly moment left_since old old IsEmpty
  at_start = started moment left_since old IsEmpty (λ c left. stays_empty c (only_now old c left))

  pub after_size : (mid : D) → Elapses (moment old) (moment mid) (left_since old) (left_since mid) (may_leave mid) → NoMore (may_leave old) (may_leave mid)
      → LeavesOnly moment left_since old mid IsEmpty
  after_size mid time no_more = goes_on moment left_since old old mid IsEmpty (may_leave mid) at_start time (λ c now. stays_empty c (no_more c now))

  -- a gate stands there
  pub has_gate : (mid : D) (n : ℕ) → IfSome (told old) (λ bs. n ≡ length bs) → 1 < n → told mid ≡ told old → NoMore (may_leave old) (may_leave mid)
      → IsAtRest told may_leave mid [] 0
  has_gate mid n size long same no_more =
      let is_size : n ≡ length image = at_told (λ bs. n ≡ length bs) (told old) image tells size in
      record {
        image = image;
        tells = same ∙ tells;
        settled = λ c now. only c (no_more c now);
        ends = refl;
        keeps = first_closed image (omega (arith, long, is_size)) is_empty;
      }

  module _ (mid : D) (n : ℕ) (size : IfSome (told old) (λ bs. n ≡ length bs)) (short : n ≤ 1) (same : told mid ≡ told old)
      (no_more : NoMore (may_leave old) (may_leave mid)) where
    torn_short : (new : D) → Follows (Torn 0 1) (may_leave mid) (may_leave new) → (c : List ℕ) → may_leave new c → IsEmpty c
    torn_short new follows c now =
        let from = follows c now in
        let was : from.0 ≡ image = only from.0 (no_more from.0 from.1) in
        let is_size : n ≡ length image = at_told (λ bs. n ≡ length bs) (told old) image tells size in
        let before : length from.0 ≡ length image = ap (λ (l : List ℕ). length l) was in
        short_empty c (omega (arith, short, is_size, before, from.2.no_longer))

    pub after_gate : (new : D) → LeavesOnly moment left_since old mid IsEmpty → Follows (Torn 0 1) (may_leave mid) (may_leave new)
        → Elapses (moment mid) (moment new) (left_since mid) (left_since new) (may_leave new) → LeavesOnly moment left_since old new IsEmpty
    after_gate new so_far follows time = goes_on moment left_since old mid new IsEmpty (may_leave new) so_far time (torn_short new follows)

    pub after_sync : (before new : D) → LeavesOnly moment left_since old before IsEmpty → Follows (Torn 0 1) (may_leave mid) (may_leave before)
        → Elapses (moment before) (moment new) (left_since before) (left_since new) (may_leave new) → NoMore (may_leave before) (may_leave new)
        → LeavesOnly moment left_since old new IsEmpty
    after_sync before new so_far follows time fewer = goes_on moment left_since old before new IsEmpty (may_leave new) so_far time
        (λ c now. torn_short before follows c (fewer c now))

    pub begun : (before new : D) → told before ≡ option_map (overwritten 0 (0 ∷ [])) (told mid) → told new ≡ told before
        → IsSettled (told before) (may_leave new) → IsAtRest told may_leave new [] 0
    begun before new written kept settles =
        let reads : told before ≡ Some (overwritten 0 (0 ∷ []) image) = written
        ∙ ap (λ (o : Option (List ℕ)). option_map (overwritten 0 (0 ∷ [])) o) (same ∙ tells) in
        record {
          image = overwritten 0 (0 ∷ []) image;
          tells = kept ∙ reads;
          settled = subst (λ (o : Option (List ℕ)). IsSettled o (may_leave new)) reads settles;
          ends = refl;
          keeps = record { gate = 0; rest = drop 1 image; closed = λ e. omega arith; split = refl };
        }
