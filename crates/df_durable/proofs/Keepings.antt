-- What a step puts on a disk.
use Rattle.df_durable.proofs.Names.{◌≡◌, ◌⊎◌, inl, inr, ⊎_elim, ℕ, List, [], ◌∷◌, ◌++◌, Option, Some, None, refl, sym, ◌∙◌, ap, subst, IfSome, OnOk, slice_get, IsSettled, LeavesOnly, IsAtRest, IsEmpty, Keeps, KeepsOrOneMore, IsKept, entry_record, records_of, start_record, AppendsTo, IsEmptyOrFirst, IsEmptyOrStarted, IsOnDisk, KeepsBeforeOrAfter, next_entry, KeptCore, Entry}
use Rattle.std.specs.Prelude.{Result, Ok, Err}
use Rattle.std.proofs.lemmas.List.Elements.{All-nil}
use Rattle.df_disk.proofs.Begins.{at_start, if_told}
use Rattle.df_disk.proofs.Moments.{started}
use Rattle.df_image.specs.Reading.{IsEntryRecord}
use Rattle.df_image.proofs.Fronts.{kept-push, records-push}
use Rattle.df_durable.proofs.Moments.{leaves_on, leaves_too}
use Rattle.df_journal_file.specs.Journal.{IsWholeEntry}
use Rattle.df_journal_text.specs.Fits.{AreRoots}
use Rattle.df_machine.specs.Journal.{State, appended}
use Rattle.df_start.specs.declared.start.RootStart.{RootStart}
use Rattle.df_unit.specs.declared.call.Call.{Call}
use Rattle.df_unit.specs.declared.name.UnitName.{UnitName}

module _ (core : State) (actor : UnitName) (call : Call) where
  abbrev entry : Entry
  entry = next_entry actor call core

  pub kept_after : IsKept core → IsWholeEntry entry → IsKept (appended actor call core)
  kept_after kept whole = kept-push core.0 core.1 entry kept whole refl

  pub records_after : (text : List ℕ) → text ≡ entry_record entry → records_of core ++ text ∷ [] ≡ records_of (appended actor call core)
  records_after text is = ap (λ (t : List ℕ). records_of core ++ t ∷ []) is ∙ sym (records-push core.0 core.1 entry)

  -- the newest entry is that of the call
  pub newest_is : (new : State) (text : List ℕ) → new ≡ appended actor call core → IfSome (slice_get new.1 0) (λ e. IsEntryRecord e text)
      → IsEntryRecord entry text
  newest_is new text made spelled = subst (λ (s : State). IfSome (slice_get s.1 0) (λ e. IsEntryRecord e text)) made spelled

  before_or_after : IsKept core → IsWholeEntry entry → (text : List ℕ) → text ≡ entry_record entry → (c : List ℕ)
      → KeepsOrOneMore (records_of core) text c → KeepsBeforeOrAfter core actor call c
  before_or_after kept whole text is c (inl keeps) = inl (record { kept = kept; keeps = keeps })
  before_or_after kept whole text is c (inr keeps) = inr (record {
    kept = kept_after kept whole;
    keeps = subst (λ (rs : List (List ℕ)). Keeps rs c) (records_after text is) keeps;
  })

  module _ {D : Type 0} (told : D → Option (List ℕ)) (may_leave : D → List ℕ → Type 0) (moment : D → ℕ) (left_since : D → ℕ → List ℕ → Type 0)
      (only_now : (disk : D) (c : List ℕ) → left_since disk (moment disk) c → may_leave disk c)
      (old : D) (gate : ℕ) (kept : IsKept core) (rests : (told old ≡ None) ⊎ IsAtRest told may_leave old (records_of core) gate) where
    -- nothing was written
    pub step_failed : IfSome (told old) (λ _. LeavesOnly moment left_since old old (KeepsBeforeOrAfter core actor call))
    step_failed = if_told (told old) (λ image tells. ⊎_elim (λ none. absurd (let e = sym none ∙ tells in let z : ⊥ = cc in z))
        (λ r. started moment left_since old (KeepsBeforeOrAfter core actor call)
        (λ c left. inl (record { kept = kept; keeps = subst (Keeps (records_of core)) (sym (r.settled c (only_now old c left))) r.keeps }))) rests)

    module _ (whole : IsWholeEntry entry) (text : List ℕ) (is : text ≡ entry_record entry) (new : D) where
      pub step_leaves : ((records : List (List ℕ)) → IsAtRest told may_leave old records gate
          → LeavesOnly moment left_since old new (KeepsOrOneMore records text))
          → IfSome (told old) (λ _. LeavesOnly moment left_since old new (KeepsBeforeOrAfter core actor call))
      step_leaves any_moment = if_told (told old) (λ image tells. ⊎_elim (λ none. absurd (let e = sym none ∙ tells in let z : ⊥ = cc in z))
          (λ r. leaves_too moment left_since old new (KeepsOrOneMore (records_of core) text) (KeepsBeforeOrAfter core actor call)
          (before_or_after kept whole text is) (any_moment (records_of core) r)) rests)

      step_rests : (next : ℕ) → AppendsTo told may_leave old new gate text next → (told old ≡ None → told new ≡ None)
          → (told new ≡ None) ⊎ IsAtRest told may_leave new (records_of (appended actor call core)) next
      step_rests next appends untold = ⊎_elim (λ none. inl (untold none))
          (λ r. inr (subst (λ (rs : List (List ℕ)). IsAtRest told may_leave new rs next) (records_after text is) (appends.rests (records_of core) r))) rests

      pub step_on_disk : (on : KeptCore) → on.core ≡ appended actor call core → AppendsTo told may_leave old new gate text on.gate
          → (told old ≡ None → told new ≡ None) → IsOnDisk told may_leave new on
      step_on_disk on made appends untold = record {
        kept = subst IsKept (sym made) (kept_after kept whole);
        rests = subst (λ (s : State). (told new ≡ None) ⊎ IsAtRest told may_leave new (records_of s) on.gate) (sym made) (step_rests on.gate appends untold);
      }

      pub step_tells : (next : ℕ) → AppendsTo told may_leave old new gate text next → told new ≡ None → told old ≡ None
      step_tells next appends gone = ⊎_elim (λ none. none)
          (λ r. absurd (let e = sym gone ∙ (appends.rests (records_of core) r).tells in let z : ⊥ = cc in z)) rests

-- ---- the first record

nothing_kept : (image : List ℕ) → Keeps [] image → IsEmpty image
nothing_kept image keeps = subst IsEmpty (sym keeps.split) (inr keeps.closed)

pub kept_first : (roots : List RootStart) → AreRoots roots → IsKept (roots, [])
kept_first roots are = record { spelled = (are, All-nil IsWholeEntry); legal = tt }

module _ {D : Type 0} (told : D → Option (List ℕ)) (may_leave : D → List ℕ → Type 0) (moment : D → ℕ) (left_since : D → ℕ → List ℕ → Type 0)
    (only_now : (disk : D) (c : List ℕ) → left_since disk (moment disk) c → may_leave disk c) (old : D) where
  -- nothing was written
  pub first_failed : (P : List ℕ → Type 0) → ((c : List ℕ) → IsEmpty c → P c) → IfSome (told old) IsEmpty → IsSettled (told old) (may_leave old)
      → IfSome (told old) (λ _. LeavesOnly moment left_since old old P)
  first_failed P f empty settled = if_told (told old) (λ image tells. leaves_too moment left_since old old IsEmpty P f
      (at_start told may_leave moment left_since only_now old image tells empty settled))

  module _ (mid new : D) (bytes : List ℕ) where
    pub first_leaves : LeavesOnly moment left_since old mid IsEmpty → LeavesOnly moment left_since mid new (KeepsOrOneMore [] bytes)
        → LeavesOnly moment left_since old new (IsEmptyOrFirst bytes)
    first_leaves first second = leaves_on moment left_since old mid new IsEmpty (KeepsOrOneMore [] bytes) (IsEmptyOrFirst bytes) first second
        (λ c empty. inl empty) (λ c kept. ⊎_elim (λ none. inl (nothing_kept c none)) (λ one. inr one) kept)

started_keeps : (roots : List RootStart) → AreRoots roots → (c : List ℕ) → IsEmptyOrFirst (start_record roots) c → IsEmptyOrStarted roots c
started_keeps roots are c (inl empty) = inl empty
started_keeps roots are c (inr keeps) = inr (record { kept = kept_first roots are; keeps = keeps })

pub start_leaves : {D : Type 0} (moment : D → ℕ) (left_since : D → ℕ → List ℕ → Type 0) (old new : D) (roots : List RootStart) → AreRoots roots
    → (told : Option (List ℕ)) → IfSome told (λ _. LeavesOnly moment left_since old new (IsEmptyOrFirst (start_record roots)))
    → IfSome told (λ _. LeavesOnly moment left_since old new (IsEmptyOrStarted roots))
start_leaves moment left_since old new roots are None leaves = leaves
start_leaves moment left_since old new roots are (Some image) leaves = leaves_too moment left_since old new (IsEmptyOrFirst (start_record roots))
    (IsEmptyOrStarted roots) (started_keeps roots are) leaves

-- what is told holds where a call is done, also where nothing is told
pub if_told_ok : {T E : Type 0} (X Y : Type 0) (told : Option (List ℕ)) (r : Result T E) → IfSome told (λ _. Y) → (Y → OnOk r X)
    → OnOk r (IfSome told (λ _. X))
if_told_ok X Y None (Ok value) here f = tt
if_told_ok X Y (Some image) (Ok value) here f = f here
if_told_ok X Y told (Err failure) here f = tt

module _ {D : Type 0} (told : D → Option (List ℕ)) (may_leave : D → List ℕ → Type 0) (old new : D) (roots : List RootStart) (on : KeptCore)
    (rests : IfSome (told old) (λ _. IsAtRest told may_leave new (start_record roots ∷ []) on.gate)) where
  at_rest : (told old ≡ None → told new ≡ None) → (o : Option (List ℕ)) → told old ≡ o
      → (told new ≡ None) ⊎ IsAtRest told may_leave new (records_of (roots, [])) on.gate
  at_rest untold None tells = inl (untold tells)
  at_rest untold (Some image) tells = inr (subst (λ (o : Option (List ℕ)). IfSome o
      (λ _. IsAtRest told may_leave new (start_record roots ∷ []) on.gate)) tells rests)

  pub first_on_disk : on.core ≡ (roots, []) → AreRoots roots → (told old ≡ None → told new ≡ None) → IsOnDisk told may_leave new on
  first_on_disk made are untold = record {
    kept = subst IsKept (sym made) (kept_first roots are);
    rests = subst (λ (s : State). (told new ≡ None) ⊎ IsAtRest told may_leave new (records_of s) on.gate) (sym made)
        (at_rest untold (told old) refl);
  }

  tells_too : (o : Option (List ℕ)) → told old ≡ o → told new ≡ None → told old ≡ None
  tells_too None tells gone = tells
  tells_too (Some image) tells gone =
      let r = subst (λ (o : Option (List ℕ)). IfSome o (λ _. IsAtRest told may_leave new (start_record roots ∷ []) on.gate)) tells rests in
      absurd (let e = sym gone ∙ r.tells in let z : ⊥ = cc in z)

  pub first_tells : told new ≡ None → told old ≡ None
  first_tells gone = tells_too (told old) refl gone
