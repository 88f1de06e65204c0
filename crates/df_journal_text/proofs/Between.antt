-- What stands from a place up to another.
use Rattle.df_journal_text.proofs.Names.{starts_with, ◌≡◌, ℕ, ◌+◌, ◌-◌, ◌≤◌, true, false, eqb, List, ◌++◌, length, take, drop, refl, sym, ap, ◌∙◌, arith, length-append, false≢true, drop-drop, take-append-le, take_all, BeginsWith}
use Rattle.std.proofs.lemmas.Bool.Decides.{Decides-eqb}
use Rattle.std.proofs.lemmas.List.{length-drop}
use Rattle.std.proofs.lemmas.Slice.Eq.{starts_is}

-- what stands in front, as long as it is
front_of : (xs ys : List ℕ) → take (length xs) (xs ++ ys) ≡ xs
front_of xs ys = take-append-le (length xs) xs ys (omega arith) ∙ take_all (length xs) xs (omega arith)

-- what stands from a place up to another
module _ (bytes : List ℕ) (at end : ℕ) (inside : at ≤ length bytes) (within : end ≤ length bytes) (text : List ℕ)
    (stands : drop at bytes ≡ text ++ drop end bytes) where
  size : length bytes - at ≡ length text + (length bytes - end)
  size =
      sym (length-drop at bytes) ∙ ap length stands ∙ length-append text (drop end bytes)
      ∙ ap (λ (n : ℕ). length text + n) (length-drop end bytes)

  pub onward : at ≤ end
  onward = omega (arith, size, inside, within)

  pub between : take (end - at) (drop at bytes) ≡ text
  between =
      let e : end - at ≡ length text = omega (arith, size, inside, within) in
      ap (λ (n : ℕ). take n (drop at bytes)) e ∙ ap (take (length text)) stands ∙ front_of text (drop end bytes)

-- all that stands behind a place
pub all_behind : (place : ℕ) (bytes : List ℕ) → take (length bytes - place) (drop place bytes) ≡ drop place bytes
all_behind place bytes = take_all (length bytes - place) (drop place bytes) (omega (arith, length-drop place bytes))

-- what begins there ends at the place behind it
pub begins_at : (text bytes : List ℕ) (at : ℕ) → at ≤ length bytes → length text ≤ length (drop at bytes) → true ≡ starts_with eqb (drop at bytes) text
    → (at + length text ≤ length bytes) × (drop at bytes ≡ text ++ drop (at + length text) bytes)
begins_at text bytes at inside short is = (
  omega (arith, inside, short, length-drop at bytes),
  (starts_is Decides-eqb (drop at bytes) text true is).0 refl ∙ ap (λ (u : List ℕ). text ++ u) (drop-drop (length text) at bytes),
)

-- what doesn't is no beginning
pub begins_not : (text bytes : List ℕ) → false ≡ starts_with eqb bytes text → ¬ BeginsWith bytes text
begins_not text bytes absent = λ begun. false≢true ((starts_is Decides-eqb bytes text false absent).1 begun.0 begun.1)
