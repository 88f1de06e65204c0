-- One more item behind others.
use Rattle.std.proofs.Common.{◌≡◌, ℕ, ◌+◌, ◌<◌, List, [], ◌∷◌, ◌++◌, map, take, length, get_or, refl, sym, ap, ◌∙◌, append_assoc, arith}
use Rattle.std.proofs.lemmas.List.{take_more, map-append, length-map, length-take-le}
use Rattle.std.proofs.lemmas.Bool.Decides.{nat_tests}
use Rattle.std.specs.List.{join_with_byte}
use Rattle.df_label.specs.Spelling.{separator, joined}

-- behind some item the byte stands
separator-behind : (c n : ℕ) → 0 < n → separator c n ≡ c ∷ []
separator-behind c n h = grind (arith, nat_tests)

-- one more text behind others
join_with_byte-more : (c : ℕ) (ws : List (List ℕ)) (w : List ℕ) → join_with_byte c (ws ++ w ∷ []) ≡ join_with_byte c ws ++ (separator c (length ws) ++ w)
join_with_byte-more c [] w = refl
join_with_byte-more c (x ∷ []) w = refl
join_with_byte-more c (x ∷ y ∷ ws) w =
    let s : separator c (length (x ∷ y ∷ ws)) ≡ separator c (length (y ∷ ws)) = separator-behind c (length (x ∷ y ∷ ws)) (omega arith) ∙ sym (separator-behind c (length (y ∷ ws)) (omega arith)) in
    ap (λ (l : List ℕ). x ++ (c ∷ l)) (join_with_byte-more c (y ∷ ws) w) ∙ sym (append_assoc x (c ∷ join_with_byte c (y ∷ ws)) (separator c (length (y ∷ ws)) ++ w)) ∙ ap (λ (l : List ℕ). (x ++ (c ∷ join_with_byte c (y ∷ ws))) ++ (l ++ w)) (sym s)

-- one more item behind those before it
joined-more : {X : Type 0} (c : ℕ) (f : X → List ℕ) (xs : List X) (i : ℕ) (d : X) → i < length xs → joined c f (take (i + 1) xs) ≡ joined c f (take i xs) ++ (separator c i ++ f (get_or xs i d))
joined-more c f xs i d h =
    let n : length (map f (take i xs)) ≡ i = length-map (take i xs) f ∙ length-take-le i xs (omega arith) in
    ap (λ l. join_with_byte c (map f l)) (take_more xs i d h) ∙ ap (join_with_byte c) (map-append f (take i xs) (get_or xs i d ∷ [])) ∙ join_with_byte-more c (map f (take i xs)) (f (get_or xs i d)) ∙ ap (λ (k : ℕ). joined c f (take i xs) ++ (separator c k ++ f (get_or xs i d))) n

-- an item was appended behind those before it
pub item_appended : {X : Type 0} (c : ℕ) (f : X → List ℕ) (xs : List X) (i : ℕ) (d x : X) → i < length xs → x ≡ get_or xs i d → (first to between more : List ℕ) → to ≡ first ++ joined c f (take i xs) → between ≡ to ++ separator c i → more ≡ between ++ f x → more ≡ first ++ joined c f (take (i + 1) xs)
item_appended {X = X} c f xs i d x h is first to between more e e' e'' =
    e'' ∙ ap (λ (l : List ℕ). l ++ f x) (e' ∙ ap (λ (l : List ℕ). l ++ separator c i) e) ∙ append_assoc (first ++ joined c f (take i xs)) (separator c i) (f x) ∙ append_assoc first (joined c f (take i xs)) (separator c i ++ f x) ∙ ap (λ (y : X). first ++ (joined c f (take i xs) ++ (separator c i ++ f y))) is ∙ ap (λ (l : List ℕ). first ++ l) (sym (joined-more c f xs i d h))
