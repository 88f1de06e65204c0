-- Tags of 32-bit numbers that are spelled alike are equal.
use Rattle.std.proofs.Common.{◌≡◌, ℕ, ◌+◌, ◌%◌, ◌<◌, ◌≤◌, ◌^◌, Bool, false, eqb, List, [], ◌∷◌, length, map, decimal, refl, sym, ap, ◌∙◌, arith, length-append}
use Rattle.std.specs.Prelude.{All, ◌==◌}
use Rattle.std.specs.Bool.{Decides}
use Rattle.std.specs.Str.{bytes_eq}
use Rattle.std.specs.List.{join_with_byte, slice_split}
use Rattle.std.proofs.lemmas.Bool.Decides.{nat_tests}
use Rattle.std.proofs.lemmas.Fmt.{decimal_by_steps, decimal_injective, decimal_nonempty}
use Rattle.std.proofs.lemmas.List.Elements.{All-append, All-cons, All-head, All-map, All-nil, All-push, All-tail, All-weaker}
use Rattle.std.proofs.lemmas.List.Splits.{slice_split_at, slice_split_none}
use Rattle.std.proofs.lemmas.Slice.Eq.{bytes_eq-Decides}
use Rattle.df_label.specs.Spelling.{joined, path_text, tag_text, tags_text, AreShort}
use Rattle.df_label.specs.code.SpelledTags.{IsSpelling}

-- no byte is this one
abbrev Lacks : ℕ → List ℕ → Type 0
Lacks c text = All (λ b. eqb b c ≡ false) text

-- pieces that lack the byte with which they are joined are got back by cutting there
split-joined : (c : ℕ) (w : List ℕ) (ws : List (List ℕ)) → All (Lacks c) (w ∷ ws) → slice_split (λ b. eqb b c) (join_with_byte c (w ∷ ws)) ≡ w ∷ ws
split-joined c w [] h = slice_split_none (λ b. eqb b c) w (All-head (Lacks c) w [] h)
split-joined c w (v ∷ ws) h =
    slice_split_at (λ b. eqb b c) w c (join_with_byte c (v ∷ ws)) (All-head (Lacks c) w (v ∷ ws) h) (grind (arith, nat_tests))
    ∙ ap (λ (l : List (List ℕ)). w ∷ l) (split-joined c v ws (All-tail (Lacks c) w (v ∷ ws) h))

-- pieces and the byte between them lack what each piece lacks, if it is another byte
lacks-join : (c sep : ℕ) (ws : List (List ℕ)) → eqb sep c ≡ false → All (Lacks c) ws → Lacks c (join_with_byte sep ws)
lacks-join c sep [] other h = All-nil (λ b. eqb b c ≡ false)
lacks-join c sep (w ∷ []) other h = All-head (Lacks c) w [] h
lacks-join c sep (w ∷ v ∷ ws) other h =
    All-append (λ b. eqb b c ≡ false) w (sep ∷ join_with_byte sep (v ∷ ws)) (All-head (Lacks c) w (v ∷ ws) h)
    (All-cons (λ b. eqb b c ≡ false) sep (join_with_byte sep (v ∷ ws)) other (lacks-join c sep (v ∷ ws) other (All-tail (Lacks c) w (v ∷ ws) h)))

length-join : (c : ℕ) (w : List ℕ) (ws : List (List ℕ)) → length w ≤ length (join_with_byte c (w ∷ ws))
length-join c w [] = omega arith
length-join c w (v ∷ ws) = omega (arith, length-append w (c ∷ join_with_byte c (v ∷ ws)))

abbrev head_of : {X : Type 0} → X → List X → X
head_of d [] = d
head_of d (x ∷ xs) = x

abbrev rest_of : {X : Type 0} → List X → List X
rest_of [] = []
rest_of (x ∷ xs) = xs

-- items of a kind: no spelling is empty or has the byte that parts them, and no two are spelled alike
module _ {X : Type 0} (c : ℕ) (f : X → List ℕ) (Fits : X → Type 0) (lacks : (x : X) → Fits x → Lacks c (f x)) (some : (x : X) → Fits x → 0 < length (f x)) (exact : (x y : X) → Fits x → Fits y → f x ≡ f y → x ≡ y) where
  map-injective : (xs ys : List X) → All Fits xs → All Fits ys → map f xs ≡ map f ys → xs ≡ ys
  map-injective [] [] fits fit e = refl
  map-injective [] (y ∷ ys) fits fit e = absurd (omega (arith, ap length e))
  map-injective (x ∷ xs) [] fits fit e = absurd (omega (arith, ap length e))
  map-injective (x ∷ xs) (y ∷ ys) fits fit e =
      let same : x ≡ y = exact x y (All-head Fits x xs fits) (All-head Fits y ys fit) (ap (head_of []) e) in
      let rest : xs ≡ ys = map-injective xs ys (All-tail Fits x xs fits) (All-tail Fits y ys fit) (ap rest_of e) in
      λ i. same i ∷ rest i

  split-items : (x : X) (xs : List X) → All Fits (x ∷ xs) → slice_split (λ b. eqb b c) (joined c f (x ∷ xs)) ≡ map f (x ∷ xs)
  split-items x xs fits = split-joined c (f x) (map f xs) (All-map (Lacks c) f (x ∷ xs) (All-weaker Fits (λ y. Lacks c (f y)) lacks (x ∷ xs) fits))

  filled : (x : X) (xs : List X) → All Fits (x ∷ xs) → 0 < length (joined c f (x ∷ xs))
  filled x xs fits = omega (arith, some x (All-head Fits x xs fits), length-join c (f x) (map f xs))

  pub joined-injective : (xs ys : List X) → All Fits xs → All Fits ys → joined c f xs ≡ joined c f ys → xs ≡ ys
  joined-injective [] [] fits fit e = refl
  joined-injective [] (y ∷ ys) fits fit e = absurd (omega (arith, ap length e, filled y ys fit))
  joined-injective (x ∷ xs) [] fits fit e = absurd (omega (arith, ap length e, filled x xs fits))
  joined-injective (x ∷ xs) (y ∷ ys) fits fit e =
      map-injective (x ∷ xs) (y ∷ ys) fits fit (sym (split-items x xs fits) ∙ ap (slice_split (λ b. eqb b c)) e ∙ split-items y ys fit)

-- digits are above the bytes that part numbers and tags
digits-high : (n : ℕ) → n < 2 ^ 64 → All (λ b. 48 ≤ b) (decimal n)
digits-high = decimal_by_steps (λ m ds. All (λ b. 48 ≤ b) ds)
    (λ m l. All-cons (λ b. 48 ≤ b) (48 + m) [] (omega arith) (All-nil (λ b. 48 ≤ b)))
    (λ m ds l h. All-push (λ b. 48 ≤ b) ds (48 + m % 10) h (omega arith))

decimal-lacks : (c n : ℕ) → c < 48 → n < 2 ^ 32 → Lacks c (decimal n)
decimal-lacks c n low small = All-weaker (λ b. 48 ≤ b) (λ b. eqb b c ≡ false) (λ b h. grind (arith, nat_tests)) (decimal n) (digits-high n (omega arith))

path_text-injective : (path other : List ℕ) → AreShort path → AreShort other → path_text path ≡ path_text other → path ≡ other
path_text-injective =
    joined-injective 46 decimal (λ n. n < 2 ^ 32) (λ n small. decimal-lacks 46 n (omega arith) small) (λ n small. decimal_nonempty n (omega arith))
    (λ m n small less e. decimal_injective m n (omega arith) (omega arith) e)

tag-lacks : (tag : List ℕ) → AreShort tag → Lacks 44 (tag_text tag)
tag-lacks tag short =
    All-cons (λ b. eqb b 44 ≡ false) 35 (path_text tag) refl
    (lacks-join 44 46 (map decimal tag) refl (All-map (Lacks 44) decimal tag (All-weaker (λ n. n < 2 ^ 32) (λ n. Lacks 44 (decimal n)) (λ n small. decimal-lacks 44 n (omega arith) small) tag short)))

pub tags_text-injective : (tags others : List (List ℕ)) → All AreShort tags → All AreShort others → tags_text tags ≡ tags_text others → tags ≡ others
tags_text-injective =
    joined-injective 44 tag_text AreShort tag-lacks (λ tag short. omega arith)
    (λ tag other short brief e. path_text-injective tag other short brief (ap rest_of e))

-- where both spellings are kept, they are equal exactly where the tags are
pub spelled_alike : (text other : List ℕ) (tags others : List (List ℕ)) → IsSpelling text tags → IsSpelling other others → 0 < length text → 0 < length other → (equal : Bool) → equal ≡ bytes_eq text other → Decides equal (tags ≡ others)
spelled_alike [] other tags others s s' some more equal e = absurd (omega (arith, some))
spelled_alike (c ∷ cs) [] tags others s s' some more equal e = absurd (omega (arith, more))
spelled_alike (c ∷ cs) (d ∷ ds) tags others s s' some more equal e =
    let decides = bytes_eq-Decides (c ∷ cs) (d ∷ ds) in (
      λ t. tags_text-injective tags others s.1 s'.1 (sym s.0 ∙ decides.0 (sym e ∙ t) ∙ s'.0),
      λ same. e ∙ decides.1 (s.0 ∙ ap tags_text same ∙ sym s'.0),
    )

-- a text that isn't empty has a byte
pub has_bytes : (len : ℕ) (text : List ℕ) (empty : Bool) → len ≡ length text → empty ≡ (len == 0) → empty ≡ false → 0 < length text
has_bytes len text empty same is not = grind (arith, nat_tests)
