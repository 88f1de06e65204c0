-- Lines of which each has a number.
use Rattle.df_script_text.proofs.Names.{◌≡◌, ℕ, ◌+◌, List, [], ◌∷◌, ◌++◌, length, suc, refl, sym, ap, ◌∙◌, arith, add-zero, numbered}

-- one more line behind others
pub numbered-push : {X : Type 0} (spell : ℕ → X → List ℕ) (n : ℕ) (xs : List X) (x : X)
    → numbered spell n (xs ++ x ∷ []) ≡ numbered spell n xs ++ spell (n + length xs) x ∷ []
numbered-push spell n [] x = ap (λ (k : ℕ). spell k x ∷ []) (sym (add-zero n))
numbered-push spell n (y ∷ ys) x =
    let e : (n + 1) + length ys ≡ n + suc (length ys) = omega arith in
    ap (λ l. spell n y ∷ l) (numbered-push spell (n + 1) ys x ∙ ap (λ (k : ℕ). numbered spell (n + 1) ys ++ spell k x ∷ []) e)

-- each item has its line
pub length-numbered : {X : Type 0} (spell : ℕ → X → List ℕ) (n : ℕ) (xs : List X) → length (numbered spell n xs) ≡ length xs
length-numbered spell n [] = refl
length-numbered spell n (x ∷ xs) = ap suc (length-numbered spell (n + 1) xs)
