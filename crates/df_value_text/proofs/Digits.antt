-- The digits of a number behind another text.
use Rattle.df_value_text.proofs.Names.{◌≡◌, ℕ, ◌+◌, ◌/◌, ◌%◌, ◌<◌, ◌≤◌, List, [], ◌∷◌, ◌++◌, decimal, append_assoc, arith, decimal_digit, decimal_step}

pub two_digits : (n : ℕ) (before : List ℕ) → 10 ≤ n → n < 100 → (before ++ ((48 + n / 10) ∷ [])) ++ ((48 + n % 10) ∷ []) ≡ before ++ decimal n
two_digits n before low high = rw (decimal_step n low (omega arith), decimal_digit (n / 10) (omega arith), append_assoc)

pub last_two : (n : ℕ) (before : List ℕ) → 100 ≤ n → n < 10000
    → ((before ++ decimal (n / 10 / 10)) ++ ((48 + n / 10 % 10) ∷ [])) ++ ((48 + n % 10) ∷ []) ≡ before ++ decimal n
last_two n before low high =
    rw (decimal_step n (omega arith) (omega arith), decimal_step (n / 10) (omega arith) (omega arith), append_assoc, append_assoc, append_assoc)
