-- The fields of a record, and the ranges of what they spell.
use Rattle.std.proofs.Common.{◌≡◌, ℕ, zero, suc, ◌+◌, ◌-◌, ◌*◌, ◌≤◌, ◌<◌, Bool, true, false, cond, ◌&&◌, ◌==◌, List, [], ◌∷◌, length, refl, arith, Option, Some, None, nat_le}
use Rattle.std.specs.Prelude.{IsUtf8}
use Rattle.std.specs.Str.{IsAscii}
use Rattle.std.proofs.lemmas.Str.{IsUtf8-from_ascii}
use Rattle.std.proofs.lemmas.Str.Ascii.{IsAscii-nil, IsAscii-cons}
use Rattle.std.proofs.lemmas.Bool.Decides.{nat_tests}
use Rattle.csv.specs.Records.{field_at}
use Rattle.df_records.specs.Fields.{are_letters, from_least, is_digit, is_symbol, number, number_from}
use Rattle.df_records.specs.RecordFile.{Fields}

pub field_is_there : (fs : Fields) (k : ℕ) → k < length fs → None ≡ field_at fs k → ⊥
unfolding field_at
field_is_there [] k lt h = omega arith
field_is_there (f ∷ fs) zero lt h = cc
field_is_there (f ∷ fs) (suc k) lt h = field_is_there fs k (omega arith) h

pub both_true : (a b : Bool) → a && b ≡ true → (a ≡ true) × (b ≡ true)
both_true true b h = (refl, h)
both_true false b h = (h, let e : false ≡ true = h in absurd cc)

letters_ascii : (bs : List ℕ) → are_letters bs ≡ true → IsAscii bs
letters_ascii [] h = IsAscii-nil
letters_ascii (b ∷ bs) h =
    let p = both_true (nat_le 65 b && nat_le b 90) (are_letters bs) h in
    let q = (both_true (nat_le 65 b) (nat_le b 90) p.0).1 in
    let le : b ≤ 90 = grind (arith, nat_tests) in
    IsAscii-cons b bs (omega arith) (letters_ascii bs p.1)

-- a symbol is text
pub symbol_is_text : (bs : List ℕ) → is_symbol bs ≡ true → IsUtf8 bs
symbol_is_text bs h =
    let p = both_true (nat_le 1 (length bs)) (nat_le (length bs) 8 && are_letters bs) h in
    IsUtf8-from_ascii bs (letters_ascii bs (both_true (nat_le (length bs) 8) (are_letters bs) p.1).1)

-- what is there is one thing
pub some_is : {X : Type 0} (a b : X) → Some a ≡ Some b → a ≡ b
some_is a b h = cc

le_of : (a b : ℕ) → nat_le a b ≡ true → a ≤ b
le_of a b h = grind (arith, nat_tests)

number_from_most : (most n m : ℕ) (bs : List ℕ) → n ≤ most → number_from most n bs ≡ Some m → m ≤ most
number_from_most most n m [] le h = let e = some_is n m h in omega arith
number_from_most most n m (b ∷ bs) le h =
    go (is_digit b && nat_le (10 * n + (b - 48)) most) (λ t. le_of (10 * n + (b - 48)) most (both_true (is_digit b) _ t).1)
    (number_from_most most (10 * n + (b - 48)) m bs) h
  where
    go : (t : Bool) → (t ≡ true → 10 * n + (b - 48) ≤ most) → (10 * n + (b - 48) ≤ most → number_from most (10 * n + (b - 48)) bs ≡ Some m → m ≤ most)
        → cond t (number_from most (10 * n + (b - 48)) bs) None ≡ Some m → m ≤ most
    go true f more h = more (f refl) h
    go false f more h = absurd cc

from_least_in : (least n : ℕ) (o : Option ℕ) → from_least least o ≡ Some n → (least ≤ n) × (o ≡ Some n)
from_least_in least n None h = absurd cc
from_least_in least n (Some m) h = go (nat_le least m) (le_of least m) h
  where
    go : (t : Bool) → (t ≡ true → least ≤ m) → cond t (Some m) None ≡ Some n → (least ≤ n) × (Some m ≡ Some n)
    go true f h = let e = some_is m n h in let le = f refl in (omega arith, h)
    go false f h = absurd cc

-- a number is in its range
pub number_in : (least most n : ℕ) (bytes : List ℕ) → number least most bytes ≡ Some n → (least ≤ n) × (n ≤ most)
number_in least most n [] h = absurd cc
number_in least most n (b ∷ []) h =
    let f = from_least_in least n (number_from most 0 (b ∷ [])) h in
    (f.0, number_from_most most 0 n (b ∷ []) (omega arith) f.1)
number_in least most n (b ∷ c ∷ bs) h = go (b == 48) h
  where
    go : (t : Bool) → cond t None (from_least least (number_from most 0 (b ∷ c ∷ bs))) ≡ Some n → (least ≤ n) × (n ≤ most)
    go true h = absurd cc
    go false h =
        let f = from_least_in least n (number_from most 0 (b ∷ c ∷ bs)) h in
        (f.0, number_from_most most 0 n (b ∷ c ∷ bs) (omega arith) f.1)
