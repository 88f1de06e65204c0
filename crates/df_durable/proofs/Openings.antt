-- What is opened on a disk.
use Rattle.df_durable.proofs.Names.{◌≡◌, ◌⊎◌, inl, inr, ℕ, ◌^◌, ◌<◌, List, length, Option, None, Some, Result, Ok, Err, refl, sym, ◌∙◌, ap, subst, IfOk, IfSome, IsSettled, NoMore, IsAtRest, records_of, IsOnDisk, IfRead, IsOf, not_taken, KeepsTo, OpenCause, KeptCore}
use Rattle.df_disk.specs.declared.image.NotTaken.{NotTaken}
use Rattle.df_disk.specs.declared.image.NotTaken.TheVariants as taken
use Rattle.df_disk.proofs.Begins.{at_told}
use Rattle.df_durable.specs.declared.cause.OpenCause.TheVariants.{DiskFault, Damaged, NoMemory}

-- ---- a disk that was not read

pub nothing_told : (told : Option (List ℕ)) (why : NotTaken) → IfSome told (λ image. IsOf image (Err (not_taken why)))
nothing_told None why = tt
nothing_told (Some image) taken.Fault = tt
nothing_told (Some image) taken.NoMemory = tt

pub read_so : (P : Type 0) (r : Result (Option KeptCore) OpenCause) → P → IfRead r P
read_so P (Ok found) h = h
read_so P (Err (Damaged place)) h = h
read_so P (Err DiskFault) h = tt
read_so P (Err NoMemory) h = tt

pub nothing_read : (P : Type 0) (why : NotTaken) → IfRead (Err (not_taken why)) P
nothing_read P taken.Fault = tt
nothing_read P taken.NoMemory = tt

-- ---- a disk that was read

module _ {D : Type 0} (told : D → Option (List ℕ)) (may_leave : D → List ℕ → Type 0) (old mid new : D) (same : told mid ≡ told old)
    (settled : IsSettled (told old) (may_leave mid)) (same_too : told new ≡ told mid) (no_more : NoMore (may_leave mid) (may_leave new)) where
  settle : (o : Option (List ℕ)) → IsSettled o (may_leave mid) → IsSettled o (may_leave new)
  settle None h = tt
  settle (Some image) h = λ c now. h c (no_more c now)

  pub settled_still : IsSettled (told new) (may_leave new)
  settled_still = subst (λ (o : Option (List ℕ)). IsSettled o (may_leave new)) (sym (same_too ∙ same)) (settle (told old) settled)

  module _ (image : List ℕ) (taken : IfSome (told mid) (λ bs. image ≡ bs)) (r : Result (Option KeptCore) OpenCause) (is : IsOf image r) where
    pub found_told : IfSome (told old) (λ bs. IsOf bs r)
    found_told = at_each (told old) (λ bs tells. subst (λ (l : List ℕ). IsOf l r) (at_told (λ bs. image ≡ bs) (told mid) bs (same ∙ tells) taken) is)
      where
        at_each : {P : List ℕ → Type 0} (o : Option (List ℕ)) → ((bs : List ℕ) → o ≡ Some bs → P bs) → IfSome o P
        at_each None f = tt
        at_each (Some bs) f = f bs refl

    pub short_told : length image < 2 ^ 64 → IfSome (told old) (λ bs. length bs < 2 ^ 64)
    short_told small = at_each (told old) (λ bs tells. subst (λ (l : List ℕ). length l < 2 ^ 64) (at_told (λ bs. image ≡ bs) (told mid) bs (same ∙ tells) taken)
        small)
      where
        at_each : {P : List ℕ → Type 0} (o : Option (List ℕ)) → ((bs : List ℕ) → o ≡ Some bs → P bs) → IfSome o P
        at_each None f = tt
        at_each (Some bs) f = f bs refl

    place : (kept : KeptCore) → KeepsTo image kept.core kept.gate → (o : Option (List ℕ)) → told old ≡ o
        → (told new ≡ None) ⊎ IsAtRest told may_leave new (records_of kept.core) kept.gate
    place kept keeps None tells = inl (same_too ∙ same ∙ tells)
    place kept keeps (Some bs) tells =
        let one : image ≡ bs = at_told (λ bs. image ≡ bs) (told mid) bs (same ∙ tells) taken in
        let reads : told new ≡ Some image = same_too ∙ same ∙ tells ∙ ap (λ (l : List ℕ). Some l) (sym one) in
        inr (record {
          image = image;
          tells = reads;
          settled = subst (λ (o : Option (List ℕ)). IsSettled o (may_leave new)) reads settled_still;
          ends = keeps.ends;
          keeps = keeps.keeps.keeps;
        })

    on_disk : (q : Result (Option KeptCore) OpenCause) → IsOf image q → IfOk q (λ found. IfSome found (IsOnDisk told may_leave new))
    on_disk (Ok None) h = tt
    on_disk (Ok (Some kept)) h = record { kept = h.keeps.kept; rests = place kept h (told old) refl }
    on_disk (Err cause) h = tt

    pub opened_on_disk : IfOk r (λ found. IfSome found (IsOnDisk told may_leave new))
    opened_on_disk = on_disk r is
