-- How a name is kept: in 32 bytes, with zeros after its own.
use Rattle.std.specs.Prelude.{◌≡◌, ℕ, true, ◌≤◌, ◌-◌, List, [], ◌∷◌, ◌++◌, length, take, drop, replicate, IsUtf8}
use Rattle.std.specs.Int.{from_be_bytes, w64}
use Rattle.std.specs.Str.{IsAscii}
use Rattle.std.specs.List.{list_all}
use Rattle.std.proofs.Common.{arith, lit<, zero, suc, length-append, sym, ◌∙◌, ap, take-append-drop, length-take-le}
use Rattle.std.proofs.lemmas.List.{drop-replicate, length-replicate}
use Rattle.std.proofs.lemmas.Str.{IsUtf8-from_ascii}
use Rattle.std.proofs.Math.Seq.{take-append_seam, drop-append_seam}
use Rattle.df_frozen.specs.Limits.{longest_name}
use Rattle.df_frozen.specs.Name.{is_name, is_name_byte}

-- the 32 bytes in which a name is kept
abbrev pub padded : List ℕ → List ℕ
padded xs = xs ++ replicate (longest_name - length xs) 0

-- the first eight of them as one number
abbrev pub head_of : List ℕ → ℕ
head_of xs = from_be_bytes w64 (padded xs)

-- the first `n` of these 32 bytes are a name, and the others are zeros
pub record IsKept (bytes : List ℕ) (n : ℕ) : Type 0 where
  pub whole : length bytes ≡ longest_name
  pub within : n ≤ longest_name
  pub zeros : drop n bytes ≡ replicate (longest_name - n) 0
  pub name : is_name (take n bytes) ≡ true

-- a kept name gives its 32 bytes back
pub padded-take : (bytes : List ℕ) (n : ℕ) → IsKept bytes n → padded (take n bytes) ≡ bytes
padded-take bytes n h =
    let e : length (take n bytes) ≡ n = length-take-le n bytes (omega (arith, h.whole, h.within)) in
    ap (λ k. take n bytes ++ replicate (longest_name - k) 0) e
    ∙ ap (λ l. take n bytes ++ l) (sym h.zeros) ∙ take-append-drop n bytes

-- a kept name gives its length back
pub length-take_kept : (bytes : List ℕ) (n : ℕ) → IsKept bytes n → length (take n bytes) ≡ n
length-take_kept bytes n h = length-take-le n bytes (omega (arith, h.whole, h.within))

-- a name has at most 32 bytes
pub is_name-length : (xs : List ℕ) → is_name xs ≡ true → length xs ≤ longest_name
is_name-length [] h = omega arith
is_name-length (x ∷ xs) h = grind (arith, h)

-- a name that is copied over zeros is kept
pub IsKept-copied : (xs : List ℕ) → is_name xs ≡ true →
    IsKept (xs ++ drop (length xs) (replicate longest_name 0)) (length xs)
IsKept-copied xs h =
    let z : ℕ = 0 in
    let short : length xs ≤ longest_name = is_name-length xs h in
    let rest : drop (length xs) (replicate longest_name z)
    ≡ replicate (longest_name - length xs) z = drop-replicate (length xs) longest_name z in
    rw rest (record {
      whole = omega (
        arith,
        short,
        length-append xs (replicate (longest_name - length xs) z),
        length-replicate (longest_name - length xs) z,
      );
      within = short;
      zeros = drop-append_seam xs (replicate (longest_name - length xs) 0);
      name = rw take-append_seam h;
    })

-- bytes of a name are ASCII
ascii : (bs : List ℕ) → list_all is_name_byte bs ≡ true → IsAscii bs
ascii [] h i = lit< tt
ascii (b ∷ bs) h zero = grind (arith, h)
ascii (b ∷ bs) h (suc i) = ascii bs (grind (arith, h)) i

-- a name is ASCII
pub ascii_name : (bs : List ℕ) → is_name bs ≡ true → IsAscii bs
ascii_name [] h i = lit< tt
ascii_name (b ∷ bs) h zero = grind (arith, h)
ascii_name (b ∷ bs) h (suc i) = ascii bs (grind (arith, h)) i

-- a name is a text
pub IsUtf8-name : (bs : List ℕ) → is_name bs ≡ true → IsUtf8 bs
IsUtf8-name bs h = IsUtf8-from_ascii bs (ascii_name bs h)
