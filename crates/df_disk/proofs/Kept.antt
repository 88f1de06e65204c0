-- Writes, done and torn, on lists of bytes.
use Rattle.std.proofs.Common.{◌≡◌, ℕ, ◌+◌, ◌≤◌, max, List, ◌++◌, length, take, drop, refl, ◌∙◌, ap, arith, length-append, length-drop, append_assoc}
use Rattle.std.proofs.lemmas.List.{length-take-le, take_at, drop_at}
use Rattle.df_disk.specs.Disk.{Torn, overwritten}

pub length-overwritten : (at : ℕ) (piece bytes : List ℕ) → at ≤ length bytes → length (overwritten at piece bytes) ≡ max (length bytes) (at + length piece)
length-overwritten at piece bytes within =
    omega (
      arith,
      length-append (take at bytes ++ piece) (drop (at + length piece) bytes),
      length-append (take at bytes) piece,
      length-take-le at bytes within,
      length-drop (at + length piece) bytes,
    )

pub torn_not : (at n : ℕ) (bytes : List ℕ) → Torn at n bytes bytes
torn_not at n bytes = record { before = refl; after = refl; no_shorter = omega arith; no_longer = omega arith }

front_length : (at : ℕ) (piece bytes : List ℕ) → at ≤ length bytes → length (take at bytes ++ piece) ≡ at + length piece
front_length at piece bytes within = omega (arith, length-append (take at bytes) piece, length-take-le at bytes within)

pub torn_overwritten : (at : ℕ) (piece bytes : List ℕ) → at ≤ length bytes → Torn at (length piece) bytes (overwritten at piece bytes)
torn_overwritten at piece bytes within = record {
  before = ap (take at) (append_assoc (take at bytes) piece (drop (at + length piece) bytes))
      ∙ take_at (take at bytes) (piece ++ drop (at + length piece) bytes) at (length-take-le at bytes within);
  after = drop_at (take at bytes ++ piece) (drop (at + length piece) bytes) (at + length piece) (front_length at piece bytes within);
  no_shorter = omega (arith, length-overwritten at piece bytes within);
  no_longer = omega (arith, length-overwritten at piece bytes within);
}
