-- Records on a disk, each behind a gate.
use Rattle.std.specs.Prelude.{◌≡◌, ◌≢◌, ◌⊎◌, ℕ, ◌≤◌, List, [], ◌∷◌, ◌++◌, length, get_or, Option, Some}
use Rattle.std.specs.Int.{w64, to_be_bytes}
use Rattle.df_disk.specs.Disk.{Only}

-- a record without its gate: how many bytes it has, as eight bytes with the greatest first, and
-- the bytes
abbrev pub record_text : List ℕ → List ℕ
record_text bytes = to_be_bytes w64 (length bytes) ++ bytes

-- records behind one another, each behind an open gate
abbrev pub opened : List (List ℕ) → List ℕ
opened [] = []
opened (bytes ∷ records) = 1 ∷ record_text bytes ++ opened records

-- an image keeps just these records: behind them stands a gate that isn't open, and behind that
-- anything
pub record Keeps (records : List (List ℕ)) (image : List ℕ) : Type 0 where
  pub gate : ℕ
  pub rest : List ℕ
  pub closed : gate ≢ 1
  pub split : image ≡ opened records ++ gate ∷ rest

-- a size of at most 1, or a first byte that isn't an open gate
abbrev pub IsEmpty : List ℕ → Type 0
IsEmpty image = (length image ≤ 1) ⊎ (get_or image 0 0 ≢ 1)

-- what is written behind a closed gate to append a record: the record and the next gate, closed
abbrev pub frame_text : List ℕ → List ℕ
frame_text bytes = record_text bytes ++ 0 ∷ []

-- the disk tells an image that keeps these records, the gate behind them stands at this place, and
-- nothing is pending
pub record IsAtRest {D : Type 0} (told : D → Option (List ℕ)) (may_leave : D → List ℕ → Type 0)
    (disk : D) (records : List (List ℕ)) (place : ℕ) : Type 0 where
  pub image : List ℕ
  pub tells : told disk ≡ Some image
  pub settled : Only image (may_leave disk)
  pub ends : length (opened records) ≡ place
  pub keeps : Keeps records image

-- an image with these records, or with one more
abbrev pub KeepsOrOneMore : List (List ℕ) → List ℕ → List ℕ → Type 0
KeepsOrOneMore records bytes image = Keeps records image ⊎ Keeps (records ++ bytes ∷ []) image
