-- What stands at a gate.
use Rattle.std.specs.Prelude.{◌≡◌, ◌≢◌, ℕ, List, ◌∷◌, ◌++◌}
use Rattle.df_disk.specs.Records.{record_text}
use Rattle.df_disk.specs.declared.records.Found.{Found}
use Rattle.df_disk.specs.declared.records.Found.TheVariants.{Closed, Broken, Whole}

-- a whole record with these bytes, and a gate behind it
abbrev pub BeginsWith : List ℕ → List ℕ → Type 0
BeginsWith bytes tail = (next : ℕ) × (more : List ℕ) × (tail ≡ record_text bytes ++ next ∷ more)

-- behind an open gate: no whole record with a gate behind it, or one with these bytes
abbrev pub IsBehind : List ℕ → Found → Type 0
IsBehind tail Closed = ⊥
IsBehind tail Broken = (bytes : List ℕ) → ¬ BeginsWith bytes tail
IsBehind tail (Whole bytes) = BeginsWith bytes.now tail

-- the gate isn't open; or it is, and this stands behind it
abbrev pub IsFound : List ℕ → Found → Type 0
IsFound here Closed = (gate : ℕ) × (rest : List ℕ) × (gate ≢ 1) × (here ≡ gate ∷ rest)
IsFound here Broken = (tail : List ℕ) × (here ≡ 1 ∷ tail) × IsBehind tail Broken
IsFound here (Whole bytes) = (tail : List ℕ) × (here ≡ 1 ∷ tail) × IsBehind tail (Whole bytes)
