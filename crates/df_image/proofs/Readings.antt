-- What the reader of journals says of a record.
use Rattle.df_image.proofs.Names.{◌≡◌, inl, ℕ, ◌<◌, List, [], ◌∷◌, ◌++◌, length, Option, None, Some, Result, Ok, Err, refl, sym, ◌∙◌, ap, subst, arith, codes, option_to_list, ◌↔◌, IfOk, IsSome, OnOk, All, AllByRecursion, append-nil, All-from_recursion, All-nil, recursion_from_All, entry_record, start_record, EndsFile, IsPlainJournal, IsWholeEntry, plain_text, AreRoots, IsRoot, line, RootStart, Entry}
use Rattle.df_image.specs.Reading.{TellsLast}

-- what stands in front of an entry in a journal without roots
abbrev pub head : List ℕ
head = line (codes "defcon-journal") (codes "1" ∷ []) ++ line (codes "run") []

pub no_roots : AreRoots []
no_roots = (omega arith, All-nil IsRoot)

pub one_entry : (entry : Entry) → IsWholeEntry entry → All IsWholeEntry (entry ∷ [])
one_entry entry whole = All-from_recursion IsWholeEntry (entry ∷ []) (whole, tt)

pub last_entry : (front : List Entry) (entry : Entry) → All IsWholeEntry (front ++ entry ∷ []) → IsWholeEntry entry
last_entry front entry all = last front (recursion_from_All IsWholeEntry (front ++ entry ∷ []) all)
  where
    last : (es : List Entry) → AllByRecursion IsWholeEntry (es ++ entry ∷ []) → IsWholeEntry entry
    last [] h = h.0
    last (e ∷ es) h = last es h.1

-- the reader reads a text as this journal and no other
module _ (P : List RootStart → List Entry → Type 0) (bytes : List ℕ)
    (only : (roots : List RootStart) (entries : List Entry) (end : List ℕ) → IsPlainJournal roots entries → EndsFile end
    → bytes ≡ plain_text roots entries ++ end → P roots entries) where
  pub start_read : (roots : List RootStart) → AreRoots roots → bytes ≡ start_record roots → P roots []
  start_read roots are is = only roots [] [] (are, All-nil IsWholeEntry) (inl refl) (is ∙ sym (append-nil (start_record roots)))

  pub entry_read : (record_bytes : List ℕ) → bytes ≡ head ++ record_bytes → (entry : Entry) → IsWholeEntry entry → record_bytes ≡ entry_record entry
      → P [] (entry ∷ [])
  entry_read record_bytes whole entry fits is = only [] (entry ∷ []) [] (no_roots, one_entry entry fits) (inl refl)
      (whole ∙ ap (λ (l : List ℕ). head ++ l) (is ∙ sym (append-nil (entry_record entry))) ∙ sym (append-nil (plain_text [] (entry ∷ []))))

-- what is answered where nothing was read
pub if_none : {X E : Type 0} {A : Type 0} (P : Option X → Type 0) (r : Result (Option X) E) → IfOk r (λ x. x ≡ None) → OnOk r A → (A → P None) → IfOk r P
if_none P (Ok x) is a f = subst P (sym is) (f a)
if_none P (Err e) is a f = tt

-- one entry at the end of a list of one
pub same_last : (front : List Entry) (entry other : Entry) → front ++ entry ∷ [] ≡ other ∷ [] → other ≡ entry
same_last [] entry other e = cc
same_last (first ∷ []) entry other e = absurd (let z : ⊥ = cc in z)
same_last (first ∷ (second ∷ front)) entry other e = absurd (let z : ⊥ = cc in z)

-- what was read at last
pub last_told : (bytes : List ℕ) (items front : List Entry) (n : ℕ) (r : Option Entry) → items ≡ front ++ option_to_list r
    → All IsWholeEntry items → ((entry : Entry) → IsWholeEntry entry → bytes ≡ entry_record entry → items ≡ entry ∷ []) → n ≡ length items
    → (IsSome r ↔ (0 < n)) → TellsLast bytes r
last_told bytes items front n None split all one ok some = record {
  none = λ entry fits is.
      let e : IsSome {T = Entry} None = some.1 (omega (arith, ok, ap (λ (l : List Entry). length l) (one entry fits is))) in
      let z : ⊥ = cc in z;
}
last_told bytes items front n (Some entry) split all one ok some = record {
  fits = last_entry front entry (subst (All IsWholeEntry) split all);
  one = λ other fits is. same_last front entry other (sym split ∙ one other fits is);
}
