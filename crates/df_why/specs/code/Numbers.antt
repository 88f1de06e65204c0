-- Numbers from 0 for names.
use Rattle.std.specs.Prelude.{◌≡◌, ◌<◌, ℕ, true, Option, Some, None}
use Rattle.std.specs.BTreeMap.{BTreeMap, btree_map_len, get, is_at}
use Rattle.std.specs.declared.cmp.Ordering.{Ordering}

-- names that tie are one, each number is below their count, and no two names have one
pub record IsNumbering {K : Type 0} (cmp : K → K → Ordering) (numbers : BTreeMap K ℕ)
    : Type 0 where
  pub exact : (a b : K) → is_at (cmp a) b ≡ true → a ≡ b
  pub below : (q : K) (n : ℕ) → get cmp numbers q ≡ Some n → n < btree_map_len numbers
  pub apart : (a b : K) (n : ℕ) → get cmp numbers a ≡ Some n → get cmp numbers b ≡ Some n →
      a ≡ b

-- each name has the number that it had
abbrev pub KeepsNumbers : {K : Type 0} → (K → K → Ordering) → BTreeMap K ℕ → BTreeMap K ℕ → Type 0
KeepsNumbers {K} cmp old new = (q : K) (n : ℕ) → get cmp old q ≡ Some n → get cmp new q ≡ Some n

-- the name has the number, if there is a name
abbrev pub Finds : {K : Type 0} → (K → K → Ordering) → BTreeMap K ℕ → Option K → Option ℕ → Type 0
Finds cmp numbers None n = n ≡ None
Finds cmp numbers (Some q) n = (k : ℕ) × (n ≡ Some k) × (get cmp numbers q ≡ Some k)
