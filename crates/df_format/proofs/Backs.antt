-- What is spelled is read back, and what stands behind it is left.
use Rattle.df_format.proofs.Names.{◌≡◌, ℕ, zero, suc, ◌<◌, ◌≤◌, Bool, true, false, List, [], ◌∷◌, ◌++◌, length, Ok, refl, sym, ap, subst, ◌∙◌, append_assoc, arith, length-append, AllByRecursion, flat_map, Read, while_at, all_at}

-- What is spelled is read back before what may follow, it stands there, and it may follow itself.
pub record Back {T X : Type 0} (stands : List T → Bool) (spell : X → List T) (Fits : X → Type 0) (Next : List T → Type 0)
    (read : List T → Read T X) : Type 0 where
  pub back : (x : X) (rest : List T) → Fits x → Next rest → read (spell x ++ rest) ≡ Ok (x, rest)
  pub stand : (x : X) (rest : List T) → Fits x → stands (spell x ++ rest) ≡ true
  pub some : (x : X) → Fits x → 0 < length (spell x)
  pub next : (x : X) (rest : List T) → Fits x → Next (spell x ++ rest)

module _ {T X : Type 0} {stands : List T → Bool} {spell : X → List T} {Fits : X → Type 0} {Next : List T → Type 0} {read : List T → Read T X}
    (b : Back stands spell Fits Next read) where
  -- what follows several follows the first of them
  next_all : (xs : List X) (rest : List T) → AllByRecursion Fits xs → Next rest → Next (flat_map spell xs ++ rest)
  next_all [] rest fits next = next
  next_all (x ∷ xs) rest fits next =
      subst Next (sym (append_assoc (spell x) (flat_map spell xs) rest)) (b.next x (flat_map spell xs ++ rest) fits.0)

  while_back : (n : ℕ) (xs : List X) (rest : List T) → length xs ≤ n → AllByRecursion Fits xs → Next rest → stands rest ≡ false
      → while_at stands read n (flat_map spell xs ++ rest) ≡ Ok (xs, rest)
  while_back zero [] rest le fits next end = refl
  while_back zero (x ∷ xs) rest le fits next end = absurd (omega arith)
  while_back (suc n) [] rest le fits next end = rw end refl
  while_back (suc n) (x ∷ xs) rest le fits next end =
      let left : List T = flat_map spell xs ++ rest in
      let stand : stands (spell x ++ left) ≡ true = b.stand x left fits.0 in
      let one : read (spell x ++ left) ≡ Ok (x, left) = b.back x left fits.0 (next_all xs rest fits.1 next) in
      ap (while_at stands read (suc n)) (append_assoc (spell x) (flat_map spell xs) rest)
      ∙ rw (stand, one, while_back n xs rest (omega arith) fits.1 next end) refl

  -- there are no more of them than tokens
  few : (xs : List X) (rest : List T) → AllByRecursion Fits xs → length xs ≤ length (flat_map spell xs ++ rest)
  few [] rest fits = omega arith
  few (x ∷ xs) rest fits =
      let left : List T = flat_map spell xs ++ rest in
      omega (arith, b.some x fits.0, few xs rest fits.1, ap length (append_assoc (spell x) (flat_map spell xs) rest), length-append (spell x) left)

  -- several are read back, where none stands behind them
  pub all_back : (xs : List X) (rest : List T) → AllByRecursion Fits xs → Next rest → stands rest ≡ false
      → all_at stands read (flat_map spell xs ++ rest) ≡ Ok (xs, rest)
  all_back xs rest fits next end = while_back (length (flat_map spell xs ++ rest)) xs rest (few xs rest fits) fits next end
