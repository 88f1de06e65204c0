-- Two records in front of the same bytes are one.
use Rattle.df_image.proofs.Names.{◌≡◌, ℕ, ◌+◌, ◌^◌, ◌<◌, List, ◌∷◌, ◌++◌, length, take, drop, refl, sym, ◌∙◌, ap, arith, append_assoc, length-append, take_at, drop_at, record_text, length-count, length-record}
use Rattle.std.specs.Int.{w64, to_be_bytes, from_be_bytes}
use Rattle.std.proofs.lemmas.Nat.{from_be_bytes-to_be_bytes_8}

-- of two texts that are the same the first byte and what stands behind it are
pub head_of : {x y : ℕ} {xs ys : List ℕ} → x ∷ xs ≡ y ∷ ys → x ≡ y
head_of e = cc

pub tail_of : {x y : ℕ} {xs ys : List ℕ} → x ∷ xs ≡ y ∷ ys → xs ≡ ys
tail_of e = cc

front : (bytes rest : List ℕ) → take 8 (record_text bytes ++ rest) ≡ to_be_bytes w64 (length bytes)
front bytes rest = ap (take 8) (append_assoc (to_be_bytes w64 (length bytes)) bytes rest)
    ∙ take_at (to_be_bytes w64 (length bytes)) (bytes ++ rest) 8 (length-count (length bytes))

back : (bytes rest : List ℕ) → drop 8 (record_text bytes ++ rest) ≡ bytes ++ rest
back bytes rest = ap (drop 8) (append_assoc (to_be_bytes w64 (length bytes)) bytes rest)
    ∙ drop_at (to_be_bytes w64 (length bytes)) (bytes ++ rest) 8 (length-count (length bytes))

same_count : (m n : ℕ) → m < 2 ^ 64 → n < 2 ^ 64 → to_be_bytes w64 m ≡ to_be_bytes w64 n → m ≡ n
same_count m n h k e = sym (from_be_bytes-to_be_bytes_8 m h) ∙ ap (from_be_bytes w64) e ∙ from_be_bytes-to_be_bytes_8 n k

pub one_record : (a b xs ys : List ℕ) → length (record_text a ++ xs) < 2 ^ 64 → record_text a ++ xs ≡ record_text b ++ ys → a ≡ b
one_record a b xs ys small same =
    let sizes : length (record_text a ++ xs) ≡ length (record_text b ++ ys) = ap (λ (l : List ℕ). length l) same in
    let a_small : length a < 2 ^ 64 = omega (arith, small, length-append (record_text a) xs, length-record a) in
    let b_small : length b < 2 ^ 64 = omega (arith, small, sizes, length-append (record_text b) ys, length-record b) in
    let counts : length a ≡ length b = same_count (length a) (length b) a_small b_small (sym (front a xs) ∙ ap (take 8) same ∙ front b ys) in
    let rests : a ++ xs ≡ b ++ ys = sym (back a xs) ∙ ap (drop 8) same ∙ back b ys in
    sym (take_at a xs (length a) refl) ∙ ap (take (length a)) rests ∙ take_at b ys (length a) (sym counts)
