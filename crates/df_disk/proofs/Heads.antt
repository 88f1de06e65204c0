-- Records in front of other bytes.
use Rattle.std.proofs.Common.{◌≡◌, ℕ, ◌+◌, ◌<◌, List, ◌∷◌, ◌++◌, length, get_or, take, drop, refl, sym, ◌∙◌, ap, arith, append_assoc, length-append, take-append-drop}
use Rattle.std.specs.Int.{w64, to_be_bytes}
use Rattle.std.proofs.lemmas.List.{take_at, drop_at, drop_more, length-take-le}
use Rattle.df_disk.specs.Found.{BeginsWith, IsBehind, IsFound}
use Rattle.df_disk.specs.declared.records.Found.{Found}
use Rattle.df_disk.specs.declared.records.Found.TheVariants.{Broken, Closed, Whole}
use Rattle.df_disk.specs.Records.{record_text}

pub length-count : (n : ℕ) → length (to_be_bytes w64 n) ≡ 8
length-count n = refl

front : (bytes rest : List ℕ) → take 8 (record_text bytes ++ rest) ≡ to_be_bytes w64 (length bytes)
front bytes rest = ap (take 8) (append_assoc (to_be_bytes w64 (length bytes)) bytes rest)
    ∙ take_at (to_be_bytes w64 (length bytes)) (bytes ++ rest) 8 (length-count (length bytes))

back : (bytes rest : List ℕ) → drop 8 (record_text bytes ++ rest) ≡ bytes ++ rest
back bytes rest = ap (drop 8) (append_assoc (to_be_bytes w64 (length bytes)) bytes rest)
    ∙ drop_at (to_be_bytes w64 (length bytes)) (bytes ++ rest) 8 (length-count (length bytes))

pub length-record : (bytes : List ℕ) → length (record_text bytes) ≡ 8 + length bytes
length-record bytes = omega (arith, length-append (to_be_bytes w64 (length bytes)) bytes, length-count (length bytes))

longer : (bytes rest : List ℕ) → 8 + length bytes + length rest ≡ length (record_text bytes ++ rest)
longer bytes rest = omega (arith, length-append (record_text bytes) rest, length-record bytes)

module _ (tail : List ℕ) where
  pub short_broken : length tail < 8 → (bytes : List ℕ) → ¬ BeginsWith bytes tail
  short_broken short bytes begins = absurd (omega (arith, short, longer bytes (begins.0 ∷ begins.1), ap (λ (l : List ℕ). length l) begins.2))

  pub whole : (count : ℕ) → to_be_bytes w64 count ≡ take 8 tail → count < length (drop 8 tail) → BeginsWith (take count (drop 8 tail)) tail
  whole count spelled inside =
      let body = drop 8 tail in
      let bytes = take count body in
      let long : length bytes ≡ count = length-take-le count body (omega arith) in
      let front_is : take 8 tail ≡ to_be_bytes w64 (length bytes) = sym spelled ∙ ap (to_be_bytes w64) (sym long) in (
        get_or body count 0,
        drop (count + 1) body,
        sym (take-append-drop 8 tail)
            ∙ ap (λ (l : List ℕ). l ++ body) front_is
            ∙ ap (λ (l : List ℕ). to_be_bytes w64 (length bytes) ++ l)
            (sym (take-append-drop count body) ∙ ap (λ (l : List ℕ). bytes ++ l) (drop_more body count 0 inside))
            ∙ sym (append_assoc (to_be_bytes w64 (length bytes)) bytes (get_or body count 0 ∷ drop (count + 1) body)),
      )

-- behind an open gate
pub behind_open : (here tail : List ℕ) (found : Found) → here ≡ 1 ∷ tail → IsBehind tail found → IsFound here found
behind_open here tail Closed is behind = absurd behind
behind_open here tail Broken is behind = (tail, is, behind)
behind_open here tail (Whole bytes) is behind = (tail, is, behind)

pub opened_at : (image : List ℕ) (place : ℕ) → place < length image → get_or image place 0 ≡ 1 → drop place image ≡ 1 ∷ drop (place + 1) image
opened_at image place inside open_gate = drop_more image place 0 inside ∙ ap (λ (g : ℕ). g ∷ drop (place + 1) image) open_gate
