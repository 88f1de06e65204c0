-- A journal is right, or wrong first at one place, whichever way it is told.
use Rattle.df_audit.proofs.Names.{◌≡◌, ◌⊎◌, inl, inr, ℕ, List, [], ◌∷◌, ◌++◌, length, map, reverse, refl, ap, sym, subst, ◌∙◌, firsts, Legal, rows, RootStart, Entry, Noted, AreRight, First, IsJournalOf, Journal, Second, IsRightJournal, IsWrongAt, entries_in}
use Rattle.std.specs.Prelude.{suc}
use Rattle.df_rules.proofs.Places.{legal_at}
use Rattle.df_check.proofs.Judged.{legal_not_wrong}
use Rattle.df_check.proofs.JudgedNoted.{right_at}
use Rattle.df_check.specs.Check as plain
use Rattle.df_check.specs.CheckNoted as with_notes
use Rattle.df_journal_file.proofs.Texts.{not_both, one_noted, one_plain}

-- ---- of two places in a list one comes first, or they are one

module _ {X : Type 0} where
  -- the first place comes before the second
  abbrev IsBefore : List X → X → List X → Type 0
  IsBefore xs x ys = (between : List X) × (ys ≡ xs ++ x ∷ between)

  places : (xs ys : List X) (x y : X) (vs ws : List X) → xs ++ x ∷ vs ≡ ys ++ y ∷ ws → (length xs ≡ length ys) ⊎ (IsBefore xs x ys ⊎ IsBefore ys y xs)
  places [] [] x y vs ws e = inl refl
  places [] (b ∷ ys) x y vs ws e = let head : b ≡ x = cc in inr (inl (ys, ap (λ (c : X). c ∷ ys) head))
  places (a ∷ xs) [] x y vs ws e = let head : a ≡ y = cc in inr (inr (xs, ap (λ (c : X). c ∷ xs) head))
  places (a ∷ xs) (b ∷ ys) x y vs ws e =
      let head : b ≡ a = cc in
      elim (places xs ys x y vs ws (let tail : xs ++ x ∷ vs ≡ ys ++ y ∷ ws = cc in tail)) [
        | inl same ↦ inl (ap suc same)
        | inr (inl before) ↦ inr (inl (before.0, ap (λ (c : X). c ∷ ys) head ∙ ap (λ (zs : List X). a ∷ zs) before.1))
        | inr (inr before) ↦ inr (inr (before.0, ap (λ (c : X). c ∷ xs) (sym head) ∙ ap (λ (zs : List X). b ∷ zs) before.1))
      ]

-- ---- one list has one first wrong place

module _ (roots : List RootStart) where
  right_before : (entries : List Entry) (p : ℕ) (e : Entry) (w : plain.IsFirstWrong roots entries p e) (between : List Entry) (older : List Entry)
      → Legal rows (firsts roots) (reverse older) → older ≡ w.older ++ w.kept ∷ between → ⊥
  right_before entries p e w between older legal is = w.wrong (legal_at rows (firsts roots) older legal w.older between w.kept is)

  pub one_plain_place : (entries : List Entry) (p q : ℕ) (d e : Entry) → plain.IsFirstWrong roots entries p d → plain.IsFirstWrong roots entries q e → p ≡ q
  one_plain_place entries p q d e v w =
      elim (places v.older w.older v.kept w.kept v.newer w.newer (sym v.whole ∙ w.whole)) [
        | inl same ↦ v.at ∙ same ∙ sym w.at
        | inr (inl before) ↦ absurd (right_before entries p d v before.0 w.older w.legal before.1)
        | inr (inr before) ↦ absurd (right_before entries q e w before.0 v.older v.legal before.1)
      ]

  noted_before : (notes : List Noted) (p : ℕ) (e : Noted) (w : with_notes.IsFirstWrong roots notes p e) (between older : List Noted) → AreRight roots older
      → older ≡ w.older ++ w.kept ∷ between → ⊥
  noted_before notes p e w between older right is = w.wrong (w.answer ∙ right_at roots older w.older between w.kept right is)

  pub one_noted_place : (notes : List Noted) (p q : ℕ) (d e : Noted) → with_notes.IsFirstWrong roots notes p d → with_notes.IsFirstWrong roots notes q e → p ≡ q
  one_noted_place notes p q d e v w =
      elim (places v.older w.older v.kept w.kept v.newer w.newer (sym v.whole ∙ w.whole)) [
        | inl same ↦ v.at ∙ same ∙ sym w.at
        | inr (inl before) ↦ absurd (noted_before notes p d v before.0 w.older w.right before.1)
        | inr (inr before) ↦ absurd (noted_before notes q e w before.0 v.older v.right before.1)
      ]

  pub noted_not_wrong : (notes : List Noted) (p : ℕ) (e : Noted) → AreRight roots notes → with_notes.IsFirstWrong roots notes p e → ⊥
  noted_not_wrong notes p e right w = noted_before notes p e w w.newer notes right w.whole

-- ---- bytes are one journal

pub right_is_not_wrong : (bytes : List ℕ) (p : ℕ) (i j : Journal) → IsJournalOf i bytes → IsJournalOf j bytes → IsRightJournal i → IsWrongAt j p → ⊥
right_is_not_wrong bytes p (First r es) (First s ds) a b right wrong =
    let same = one_plain bytes r s es ds a b in
    let legal = subst (λ (x : List RootStart × List Entry). Legal rows (firsts x.0) (reverse x.1))
    (ap (λ (x : List RootStart). (x, es)) same.0 ∙ ap (λ (x : List Entry). (s, x)) same.1) right in
    legal_not_wrong s ds p wrong.0 legal wrong.1
right_is_not_wrong bytes p (First r es) (Second s ns) a b right wrong = not_both bytes r s es ns a b
right_is_not_wrong bytes p (Second r ns) (First s es) a b right wrong = not_both bytes s r es ns b a
right_is_not_wrong bytes p (Second r ns) (Second s ms) a b right wrong =
    let same = one_noted bytes r s ns ms a b in
    let are = subst (λ (x : List RootStart × List Noted). AreRight x.0 x.1)
    (ap (λ (x : List RootStart). (x, ns)) same.0 ∙ ap (λ (x : List Noted). (s, x)) same.1) right in
    noted_not_wrong s ms p wrong.0 are wrong.1

-- bytes are a journal of so many entries
pub one_count : (bytes : List ℕ) (i j : Journal) → IsJournalOf i bytes → IsJournalOf j bytes → length (entries_in i) ≡ length (entries_in j)
one_count bytes (First r es) (First s ds) a b = ap (λ (x : List Entry). length x) (one_plain bytes r s es ds a b).1
one_count bytes (First r es) (Second s ns) a b = absurd (not_both bytes r s es ns a b)
one_count bytes (Second r ns) (First s es) a b = absurd (not_both bytes s r es ns b a)
one_count bytes (Second r ns) (Second s ms) a b = ap (λ (x : List Noted). length (map (λ n. n.entry) x)) (one_noted bytes r s ns ms a b).1

pub one_place : (bytes : List ℕ) (p q : ℕ) (i j : Journal) → IsJournalOf i bytes → IsJournalOf j bytes → IsWrongAt i p → IsWrongAt j q → p ≡ q
one_place bytes p q (First r es) (First s ds) a b v w =
    let same = one_plain bytes r s es ds a b in
    let moved = subst (λ (x : List RootStart × List Entry). plain.IsFirstWrong x.0 x.1 p v.0)
    (ap (λ (x : List RootStart). (x, es)) same.0 ∙ ap (λ (x : List Entry). (s, x)) same.1) v.1 in
    one_plain_place s ds p q v.0 w.0 moved w.1
one_place bytes p q (First r es) (Second s ns) a b v w = absurd (not_both bytes r s es ns a b)
one_place bytes p q (Second r ns) (First s es) a b v w = absurd (not_both bytes s r es ns b a)
one_place bytes p q (Second r ns) (Second s ms) a b v w =
    let same = one_noted bytes r s ns ms a b in
    let moved = subst (λ (x : List RootStart × List Noted). with_notes.IsFirstWrong x.0 x.1 p v.0)
    (ap (λ (x : List RootStart). (x, ns)) same.0 ∙ ap (λ (x : List Noted). (s, x)) same.1) v.1 in
    one_noted_place s ms p q v.0 w.0 moved w.1
