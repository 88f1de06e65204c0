-- An append, call by call: what a crash may leave behind each.
use Rattle.std.proofs.Common.{◌≡◌, inl, ℕ, ◌+◌, ◌<◌, ◌≤◌, List, [], ◌∷◌, ◌++◌, length, take, Option, Some, None, sym, ◌∙◌, ap, subst, arith}
use Rattle.std.specs.Prelude.{IfSome, OnOk, Result, Ok, Err, option_map}
use Rattle.df_disk.specs.Disk.{Elapses, Follows, IsSettled, LeavesOnly, NoMore, Only, Torn, Writes, overwritten}
use Rattle.df_disk.specs.Records.{IsAtRest, Keeps, KeepsOrOneMore, frame_text}
use Rattle.df_disk.proofs.Crash.{Staged, keeps_front, length-opened-push, opens, staged, torn_gate}
use Rattle.df_disk.proofs.Kept.{length-overwritten}
use Rattle.df_disk.proofs.Moments.{goes_on, started}

-- a write at a place within what a disk tells
pub place_behind : (told : Option (List ℕ)) (gate : ℕ) → IfSome told (λ bs. gate < length bs) → IfSome told (λ bs. gate + 1 ≤ length bs)
place_behind None gate within = within
place_behind (Some bs) gate within = omega arith

-- what a disk doesn't tell it doesn't tell behind a write
pub untold_write : {T E : Type 0} (r : Result T E) (told after : Option (List ℕ)) (at : ℕ) (piece : List ℕ) → Writes at piece told after r → told ≡ None
    → after ≡ None
untold_write (Ok value) told after at piece writes none = writes ∙ ap (λ (o : Option (List ℕ)). option_map (overwritten at piece) o) none
untold_write (Err failure) None after at piece writes none = writes
untold_write (Err failure) (Some bs) after at piece writes none = absurd (let z : ⊥ = cc in z)

pub place_still : (told after : Option (List ℕ)) (gate : ℕ) (frame : List ℕ) → IfSome told (λ bs. gate < length bs)
    → after ≡ option_map (overwritten (gate + 1) frame) told → IfSome after (λ bs. gate ≤ length bs)
place_still None after gate frame within is = subst (λ (o : Option (List ℕ)). IfSome o (λ bs. gate ≤ length bs)) (sym is) within
place_still (Some bs) after gate frame within is =
    let longer : gate ≤ length (overwritten (gate + 1) frame bs) = omega (arith, within, length-overwritten (gate + 1) frame bs (omega (arith, within))) in
    subst (λ (o : Option (List ℕ)). IfSome o (λ bs. gate ≤ length bs)) (sym is) longer

-- what follows from a call that was done
pub on_ok : {T E : Type 0} {A B : Type 0} (r : Result T E) → OnOk r A → (A → B) → OnOk r B
on_ok (Ok value) a f = f a
on_ok (Err failure) a f = a

module _ {D : Type 0} (told : D → Option (List ℕ)) (may_leave : D → List ℕ → Type 0) (moment : D → ℕ) (left_since : D → ℕ → List ℕ → Type 0)
    (only_now : (disk : D) (c : List ℕ) → left_since disk (moment disk) c → may_leave disk c)
    (old : D) (records : List (List ℕ)) (bytes : List ℕ) (place : ℕ) (rests : IsAtRest told may_leave old records place) where
  abbrev P : List ℕ → Type 0
  P = KeepsOrOneMore records bytes

  pub at_start : LeavesOnly moment left_since old old P
  at_start = started moment left_since old P (λ c left. inl (subst (Keeps records) (sym (rests.settled c (only_now old c left))) rests.keeps))

  -- the record is written, or torn
  torn_behind : (mid : D) (n : ℕ) → Follows (Torn (place + 1) n) (may_leave old) (may_leave mid) → (c : List ℕ) → may_leave mid c → Keeps records c
  torn_behind mid n follows c now =
      let from = follows c now in
      let was : from.0 ≡ rests.image = rests.settled from.0 from.1 in
      keeps_front records place rests.ends rests.image c rests.keeps (from.2.before ∙ ap (take (place + 1)) was)

  pub after_write : (mid : D) (n : ℕ) → Elapses (moment old) (moment mid) (left_since old) (left_since mid) (may_leave mid)
      → Follows (Torn (place + 1) n) (may_leave old) (may_leave mid) → LeavesOnly moment left_since old mid P
  after_write mid n time follows = goes_on moment left_since old old mid P (may_leave mid) at_start time (λ c now. inl (torn_behind mid n follows c now))

  -- and synced, or not
  pub after_sync : (mid new : D) (n : ℕ) → LeavesOnly moment left_since old mid P → Follows (Torn (place + 1) n) (may_leave old) (may_leave mid)
      → Elapses (moment mid) (moment new) (left_since mid) (left_since new) (may_leave new) → NoMore (may_leave mid) (may_leave new)
      → LeavesOnly moment left_since old new P
  after_sync mid new n so_far follows time no_more = goes_on moment left_since old mid new P (may_leave new) so_far time
      (λ c now. inl (torn_behind mid n follows c (no_more c now)))

  -- what is read behind the first write
  pub told_behind : (mid : D) (frame : List ℕ) → frame ≡ frame_text bytes → told mid ≡ option_map (overwritten (place + 1) frame) (told old)
      → told mid ≡ Some (overwritten (place + 1) (frame_text bytes) rests.image)
  told_behind mid frame is written = written ∙ ap (λ (o : Option (List ℕ)). option_map (overwritten (place + 1) frame) o) rests.tells
      ∙ ap (λ (f : List ℕ). Some (overwritten (place + 1) f rests.image)) is

  pub stage : Staged records bytes (overwritten (place + 1) (frame_text bytes) rests.image)
  stage = staged records place rests.ends bytes rests.image rests.keeps

  abbrev second : List ℕ
  second = overwritten (place + 1) (frame_text bytes) rests.image

  -- the gate is written, or torn
  torn_open : (mid new : D) → told mid ≡ Some second → IsSettled (told mid) (may_leave mid) → Follows (Torn place 1) (may_leave mid) (may_leave new)
      → (c : List ℕ) → may_leave new c → P c
  torn_open mid new tells settled follows c now =
      let from = follows c now in
      let only : Only second (may_leave mid) = subst (λ (o : Option (List ℕ)). IsSettled o (may_leave mid)) tells settled in
      torn_gate records place rests.ends bytes second c stage (subst (λ (d : List ℕ). Torn place 1 d c) (only from.0 from.1) from.2)

  pub after_gate : (mid new : D) → LeavesOnly moment left_since old mid P → told mid ≡ Some second → IsSettled (told mid) (may_leave mid)
      → Follows (Torn place 1) (may_leave mid) (may_leave new)
      → Elapses (moment mid) (moment new) (left_since mid) (left_since new) (may_leave new) → LeavesOnly moment left_since old new P
  after_gate mid new so_far tells settled follows time = goes_on moment left_since old mid new P (may_leave new) so_far time
      (torn_open mid new tells settled follows)

  pub after_all : (before mid new : D) → LeavesOnly moment left_since old mid P → told before ≡ Some second → IsSettled (told before) (may_leave before)
      → Follows (Torn place 1) (may_leave before) (may_leave mid)
      → Elapses (moment mid) (moment new) (left_since mid) (left_since new) (may_leave new) → NoMore (may_leave mid) (may_leave new)
      → LeavesOnly moment left_since old new P
  after_all before mid new so_far tells settled follows time no_more = goes_on moment left_since old mid new P (may_leave new) so_far time
      (λ c now. torn_open before mid tells settled follows c (no_more c now))

  -- the record is kept
  pub kept : (before mid new : D) (frame : List ℕ) → frame ≡ frame_text bytes → told before ≡ Some second
      → told mid ≡ option_map (overwritten place (1 ∷ [])) (told before) → told new ≡ told mid → IsSettled (told mid) (may_leave new)
      → IsAtRest told may_leave new (records ++ bytes ∷ []) (place + length frame)
  kept before mid new frame is tells written same settled =
      let reads : told mid ≡ Some (overwritten place (1 ∷ []) second) = written
      ∙ ap (λ (o : Option (List ℕ)). option_map (overwritten place (1 ∷ [])) o) tells in
      record {
        image = overwritten place (1 ∷ []) second;
        tells = same ∙ reads;
        settled = subst (λ (o : Option (List ℕ)). IsSettled o (may_leave new)) reads settled;
        ends = length-opened-push records bytes ∙ ap (λ (n : ℕ). n + length (frame_text bytes)) rests.ends ∙ ap (λ (f : List ℕ). place + length f) (sym is);
        keeps = opens records place rests.ends bytes second stage;
      }
