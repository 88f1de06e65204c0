-- A tag is its maker's numbers and then its own.
use Rattle.std.proofs.Common.{◌≡◌, ◌-◌, ℕ, List, [], ◌∷◌, ◌++◌, length, take, get_or, ap, ◌∙◌, arith}
use Rattle.std.proofs.lemmas.List.{length_push}
use Rattle.std.proofs.Math.Seq.{take-append_seam, get_or-append_seam}
use Rattle.df_label.specs.Tag.{maker_of, number_of}

all_but_one : (maker : List ℕ) (number : ℕ) → length (maker ++ number ∷ []) - 1 ≡ length maker
all_but_one maker number = omega (arith, length_push maker number)

pub maker_of-push : (maker : List ℕ) (number : ℕ) → maker_of (maker ++ number ∷ []) ≡ maker
maker_of-push maker number = ap (λ n. take n (maker ++ number ∷ [])) (all_but_one maker number) ∙ take-append_seam maker (number ∷ [])

pub number_of-push : (maker : List ℕ) (number : ℕ) → number_of (maker ++ number ∷ []) ≡ number
number_of-push maker number = ap (λ n. get_or (maker ++ number ∷ []) n 0) (all_but_one maker number) ∙ get_or-append_seam maker number [] 0
