-- A list of which the length and each item is known.
use Rattle.std.proofs.Common.{◌≡◌, ◌<◌, ◌≤◌, List, [], ◌∷◌, length, get_or, ap, sym, ◌∙◌, arith}

pub two_items : {X : Type 0} (a b : X) (xs : List X) → 2 ≤ length xs → length xs < 3
    → a ≡ get_or xs 0 a → b ≡ get_or xs 1 b → xs ≡ a ∷ b ∷ []
two_items a b [] least most first second = absurd (omega (arith, least))
two_items a b (x ∷ []) least most first second = absurd (omega (arith, least))
two_items {X} a b (x ∷ y ∷ []) least most first second = ap (λ (c : X). c ∷ y ∷ []) (sym first) ∙ ap (λ (d : X). a ∷ d ∷ []) (sym second)
two_items a b (x ∷ y ∷ z ∷ xs) least most first second = absurd (omega (arith, most))

pub three_items : {X : Type 0} (a b c : X) (xs : List X) → 3 ≤ length xs → length xs < 4
    → a ≡ get_or xs 0 a → b ≡ get_or xs 1 b → c ≡ get_or xs 2 c → xs ≡ a ∷ b ∷ c ∷ []
three_items a b c [] least most first second third = absurd (omega (arith, least))
three_items {X} a b c (x ∷ xs) least most first second third =
    let rest = two_items b c xs (omega (arith, least)) (omega (arith, most)) second third in
    ap (λ (d : X). d ∷ xs) (sym first) ∙ ap (λ (ys : List X). a ∷ ys) rest

pub five_items : {X : Type 0} (a b c d e : X) (xs : List X) → 5 ≤ length xs → length xs < 6
    → a ≡ get_or xs 0 a → b ≡ get_or xs 1 b → c ≡ get_or xs 2 c → d ≡ get_or xs 3 d → e ≡ get_or xs 4 e → xs ≡ a ∷ b ∷ c ∷ d ∷ e ∷ []
five_items a b c d e [] least most first second third fourth fifth = absurd (omega (arith, least))
five_items a b c d e (x ∷ []) least most first second third fourth fifth = absurd (omega (arith, least))
five_items {X} a b c d e (x ∷ y ∷ xs) least most first second third fourth fifth =
    let rest = three_items c d e xs (omega (arith, least)) (omega (arith, most)) third fourth fifth in
    ap (λ (q : X). q ∷ y ∷ xs) (sym first) ∙ ap (λ (q : X). a ∷ q ∷ xs) (sym second) ∙ ap (λ (ys : List X). a ∷ b ∷ ys) rest
