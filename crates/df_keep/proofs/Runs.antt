-- A run: what its calls make of a store, and what a crash may leave.
use Rattle.std.proofs.Common.{◌≡◌, inl, inr, ⊎_elim, ℕ, ◌+◌, ◌<◌, ◌≤◌, List, [], ◌∷◌, ◌++◌, length, get_or, take, drop, Option, Some, None, refl, sym, ◌∙◌, ap, subst, arith, take-append-drop, append_assoc}
use Rattle.std.specs.Prelude.{IfSome}
use Rattle.std.proofs.lemmas.List.{drop_more, take_all, take_more}
use Rattle.df_disk.specs.Disk.{LeavesOnly}
use Rattle.df_disk.specs.Records.{Keeps}
use Rattle.df_disk.proofs.Begins.{if_told}
use Rattle.df_disk.proofs.Moments.{started}
use Rattle.df_image.specs.Image.{IsKept, KeepsJournal, records_of}
use Rattle.df_durable.specs.Keeping.{IsOnDisk, KeepsBeforeOrAfter}
use Rattle.df_durable.specs.declared.keeping.KeptCore.{KeptCore}
use Rattle.df_durable.proofs.Moments.{leaves_on}
use Rattle.df_keep.specs.Kept.{followed}
use Rattle.df_keep.specs.Storing.{KeepsSome}
use Rattle.df_machine.specs.Journal.{State, appended}
use Rattle.df_script_text.specs.declared.line.ScriptLine.{ScriptLine}

-- one call more
pub followed-push : (core : State) (lines : List ScriptLine) (line : ScriptLine)
    → followed core (lines ++ line ∷ []) ≡ appended line.actor line.call (followed core lines)
followed-push core [] line = refl
followed-push core (first ∷ lines) line = followed-push (appended first.actor first.call core) lines line

module _ (core : State) (lines : List ScriptLine) where
  pub some_none : (c : List ℕ) → KeepsJournal core c → KeepsSome core lines c
  some_none c keeps = ([], lines, refl, keeps)

  pub some_step : (done left : List ScriptLine) (line : ScriptLine) → lines ≡ done ++ line ∷ left → (c : List ℕ)
      → KeepsBeforeOrAfter (followed core done) line.actor line.call c → KeepsSome core lines c
  some_step done left line split c (inl before) = (done, line ∷ left, split, before)
  some_step done left line split c (inr after) = (
    done ++ line ∷ [],
    left,
    split ∙ sym (append_assoc done (line ∷ []) left),
    subst (λ (s : State). KeepsJournal s c) (sym (followed-push core done line)) after,
  )

-- a list around one of its places
split_at : (xs : List ScriptLine) (i : ℕ) (x : ScriptLine) → i < length xs → x ≡ get_or xs i x → xs ≡ take i xs ++ x ∷ drop (i + 1) xs
split_at xs i x inside is = sym (take-append-drop i xs) ∙ ap (λ (l : List ScriptLine). take i xs ++ l)
    (drop_more xs i x inside ∙ ap (λ (y : ScriptLine). y ∷ drop (i + 1) xs) (sym is))

module _ {D : Type 0} (told : D → Option (List ℕ)) (may_leave : D → List ℕ → Type 0) (moment : D → ℕ) (left_since : D → ℕ → List ℕ → Type 0)
    (faults : D → ℕ) (old : D) (first : State) (lines : List ScriptLine) where
  -- the first calls were made, and each entry is kept
  pub record IsSoFar (i : ℕ) (disk : D) (on : KeptCore) : Type 0 where
    pub made : on.core ≡ followed first (take i lines)
    pub on_disk : IsOnDisk told may_leave disk on
    pub tells : told disk ≡ None → told old ≡ None
    pub leaves : IfSome (told old) (λ _. LeavesOnly moment left_since old disk (KeepsSome first lines))
    pub falls : faults old ≤ faults disk

  module _ (only_now : (disk : D) (c : List ℕ) → left_since disk (moment disk) c → may_leave disk c) where
    -- before the first call
    pub so_far_none : (on : KeptCore) → on.core ≡ first → IsOnDisk told may_leave old on → IsSoFar 0 old on
    so_far_none on same kept = record {
      made = same;
      on_disk = kept;
      tells = λ none. none;
      leaves = if_told (told old) (λ image tells. ⊎_elim (λ none. absurd (let e = sym none ∙ tells in let z : ⊥ = cc in z))
          (λ r. started moment left_since old (KeepsSome first lines) (λ c left. some_none first lines c (record {
            kept = subst IsKept same kept.kept;
            keeps = subst (λ (s : State). Keeps (records_of s) c) same
                (subst (Keeps (records_of on.core)) (sym (r.settled c (only_now old c left))) r.keeps);
          }))) kept.rests);
      falls = omega arith;
    }

  module _ (i : ℕ) (line : ScriptLine) (inside : i < length lines) (is : line ≡ get_or lines i line) (mid new : D) (on : KeptCore)
      (so : IsSoFar i mid on) (second : IfSome (told mid) (λ _. LeavesOnly moment left_since mid new (KeepsBeforeOrAfter on.core line.actor line.call))) where
    join : {X Y : Type 0} (o : Option (List ℕ)) → (o ≡ None → Y) → (X → Y) → IfSome o (λ _. X) → Y
    join None none f x = none refl
    join (Some image) none f x = f x

    -- in one call more
    pub so_far_leaves : IfSome (told old) (λ _. LeavesOnly moment left_since old new (KeepsSome first lines))
    so_far_leaves = if_told (told old) (λ image told_so.
        let leaves : LeavesOnly moment left_since old mid (KeepsSome first lines) = subst (λ (o : Option (List ℕ)). IfSome o
        (λ _. LeavesOnly moment left_since old mid (KeepsSome first lines))) told_so so.leaves in
        join (told mid) (λ none. absurd (let e = sym (so.tells none) ∙ told_so in let z : ⊥ = cc in z)) (λ leaves_too.
        leaves_on moment left_since old mid new (KeepsSome first lines) (KeepsBeforeOrAfter on.core line.actor line.call) (KeepsSome first lines)
        leaves leaves_too (λ c some. some) (λ c step. some_step first lines (take i lines) (drop (i + 1) lines) line (split_at lines i line inside is) c
        (subst (λ (s : State). KeepsBeforeOrAfter s line.actor line.call c) so.made step))) second)

    pub so_far_more : (after : KeptCore) → after.core ≡ appended line.actor line.call on.core → IsOnDisk told may_leave new after
        → (told new ≡ None → told mid ≡ None) → faults mid ≤ faults new → IsSoFar (i + 1) new after
    so_far_more after made kept tells falls = record {
      made = made ∙ ap (λ (s : State). appended line.actor line.call s) so.made ∙ sym (followed-push first (take i lines) line)
          ∙ ap (followed first) (ap (λ (y : ScriptLine). take i lines ++ y ∷ []) is ∙ sym (take_more lines i line inside));
      on_disk = kept;
      tells = λ none. so.tells (tells none);
      leaves = so_far_leaves;
      falls = omega (arith, so.falls);
    }

  pub so_far_all : (i : ℕ) (disk : D) (on : KeptCore) → length lines ≤ i → IsSoFar i disk on → on.core ≡ followed first lines
  so_far_all i disk on all so = so.made ∙ ap (followed first) (take_all i lines all)
