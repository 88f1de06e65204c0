-- Which file stops a run.
use Rattle.df_run.proofs.Names.{◌≡◌, ◌<◌, ◌≤◌, ℕ, suc, List, [], ◌∷◌, length, Option, None, Some, inl, inr, sym, subst, ◌∙◌, arith, ⊤, IfAllTold, IfTold, IsToldLong, OfRead, OfTold, Reaches, WereRead, BlamesBytes, IsInput, BadKind, Command}
use Rattle.df_io.specs.Limits.{longest_file}

-- ---- what is said of all files

pub if_all_told-map : (files : List (Option (List ℕ))) (P Q : List (List ℕ) → Type 0) → ((read : List (List ℕ)) → P read → Q read) → IfAllTold files P
    → IfAllTold files Q
if_all_told-map [] P Q f h = f [] h
if_all_told-map (None ∷ files) P Q f h = tt
if_all_told-map (Some bytes ∷ files) P Q f h = λ short. if_all_told-map files (λ read. P (bytes ∷ read)) (λ read. Q (bytes ∷ read))
    (λ read p. f (bytes ∷ read) p) (h short)

pub if_all_told-all : (files : List (Option (List ℕ))) (P : List (List ℕ) → Type 0) → ((read : List (List ℕ)) → P read) → IfAllTold files P
if_all_told-all [] P f = f []
if_all_told-all (None ∷ files) P f = tt
if_all_told-all (Some bytes ∷ files) P f = λ short. if_all_told-all files (λ read. P (bytes ∷ read)) (λ read. f (bytes ∷ read))

-- what holds of what was read holds of what is told
pub if_all_told-read : (files : List (Option (List ℕ))) (read : List (List ℕ)) (P : List (List ℕ) → Type 0) → WereRead files read → P read → IfAllTold files P
if_all_told-read [] [] P were p = p
if_all_told-read [] (bytes ∷ read) P were p = absurd were
if_all_told-read (None ∷ files) [] P were p = absurd were
if_all_told-read (Some file ∷ files) [] P were p = absurd were
if_all_told-read (None ∷ files) (bytes ∷ read) P were p = tt
if_all_told-read (Some file ∷ files) (bytes ∷ read) P were p = λ short. if_all_told-read files read (λ more. P (file ∷ more)) were.1
    (subst (λ (b : List ℕ). P (b ∷ read)) were.0.1 p)

-- ---- where a run is stopped

-- what was read is what the command reads; the first file has number n
abbrev pub AreInputs : Command → ℕ → List (List ℕ) → Type 0
AreInputs c n [] = ⊤
AreInputs c n (bytes ∷ read) = IsInput c n bytes × AreInputs c (suc n) read

module _ (c : Command) (Q : ℕ → Option (List ℕ) → Type 0) (q_bad : (n : ℕ) (told : Option (List ℕ)) → Q n told → OfRead told (IsInput c n) → ⊥) where
  -- none is told to be bad where all were read and are good
  pub none_is_bad : (n : ℕ) (files : List (Option (List ℕ))) (read : List (List ℕ)) (j : ℕ) → WereRead files read → AreInputs c n read
      → Reaches OfTold c n files j (Q j) → ⊥
  none_is_bad n [] read j were inputs q = q
  none_is_bad n (told ∷ files) [] j were inputs q = were
  none_is_bad n (told ∷ files) (bytes ∷ read) j were inputs (inl q) = q_bad n told (subst (λ (k : ℕ). Q k told) q.0 q.1) (bytes, were.0, inputs.0)
  none_is_bad n (told ∷ files) (bytes ∷ read) j were inputs (inr q) = none_is_bad (suc n) files read j were.1 inputs.1 q.1

module _ (c : Command) (P : ℕ → Option (List ℕ) → Type 0) (p_bad : (n : ℕ) (told : Option (List ℕ)) → P n told → OfTold told (IsInput c n) → ⊥) where
  -- files of which one stopped the run aren't what the command reads
  pub stopped_is_bad : (n : ℕ) (files : List (Option (List ℕ))) (i : ℕ) → Reaches OfRead c n files i (P i) → IfAllTold files (λ read. AreInputs c n read → ⊥)
  stopped_is_bad n [] i p = absurd p
  stopped_is_bad n (None ∷ files) i p = tt
  stopped_is_bad n (Some bytes ∷ files) i (inl p) = λ short. if_all_told-all files (λ read. AreInputs c n (bytes ∷ read) → ⊥)
      (λ read inputs. p_bad n (Some bytes) (subst (λ (k : ℕ). P k (Some bytes)) p.0 p.1) (short, inputs.0))
  stopped_is_bad n (Some bytes ∷ files) i (inr p) = λ short. if_all_told-map files (λ read. AreInputs c (suc n) read → ⊥)
      (λ read. AreInputs c n (bytes ∷ read) → ⊥) (λ read none inputs. none inputs.1) (stopped_is_bad (suc n) files i p.1)

  module _ (Q : ℕ → Option (List ℕ) → Type 0) (q_bad : (n : ℕ) (told : Option (List ℕ)) → Q n told → OfRead told (IsInput c n) → ⊥) where
    -- the file that stopped a run is the one that is told to be bad
    pub one_stop : (n : ℕ) (files : List (Option (List ℕ))) (i j : ℕ) → Reaches OfRead c n files i (P i) → Reaches OfTold c n files j (Q j)
        → (i ≡ j) × ((told : Option (List ℕ)) × P i told × Q i told)
    one_stop n [] i j p q = absurd p
    one_stop n (told ∷ files) i j (inl p) (inl q) = (p.0 ∙ sym q.0, (told, p.1, subst (λ (k : ℕ). Q k told) (q.0 ∙ sym p.0) q.1))
    one_stop n (told ∷ files) i j (inl p) (inr q) = absurd (p_bad n told (subst (λ (k : ℕ). P k told) p.0 p.1) q.0)
    one_stop n (told ∷ files) i j (inr p) (inl q) = absurd (q_bad n told (subst (λ (k : ℕ). Q k told) q.0 q.1) p.0)
    one_stop n (told ∷ files) i j (inr p) (inr q) = one_stop (suc n) files i j p.1 q.1

-- ---- a file that was read and is blamed, or was too long; one that is told to be bad, or too long

abbrev pub ReadBad : Command → ℕ → BadKind → ℕ → Option (List ℕ) → Type 0
ReadBad c line kind n told = OfRead told (λ bytes. BlamesBytes c n bytes line kind)

abbrev pub ReadLong : ℕ → Option (List ℕ) → Type 0
ReadLong n told = IfTold told (λ bytes. longest_file < length bytes)

abbrev pub ToldBad : Command → ℕ → Option (List ℕ) → Type 0
ToldBad c n told = OfTold told (λ bytes. ¬ IsInput c n bytes)

abbrev pub ToldLong : ℕ → Option (List ℕ) → Type 0
ToldLong n told = IsToldLong told

pub read_bad : (c : Command) (line : ℕ) (kind : BadKind) (n : ℕ) (told : Option (List ℕ)) → ReadBad c line kind n told → OfTold told (IsInput c n) → ⊥
read_bad c line kind n None p good = good
read_bad c line kind n (Some file) p good = p.2.bad (subst (IsInput c n) (sym p.1.1) good.1)

pub read_long : (c : Command) (n : ℕ) (told : Option (List ℕ)) → ReadLong n told → OfTold told (IsInput c n) → ⊥
read_long c n None p good = good
read_long c n (Some file) p good = omega (arith, p, good.0)

pub told_bad : (c : Command) (n : ℕ) (told : Option (List ℕ)) → ToldBad c n told → OfRead told (IsInput c n) → ⊥
told_bad c n None q good = q
told_bad c n (Some file) q good = q.1 (subst (IsInput c n) good.1.1 good.2)

pub told_long : (c : Command) (n : ℕ) (told : Option (List ℕ)) → ToldLong n told → OfRead told (IsInput c n) → ⊥
told_long c n None q good = q
told_long c n (Some file) q good = let short : length file ≤ longest_file = subst (λ (b : List ℕ). length b ≤ longest_file) good.1.1 good.1.0 in omega
    (arith, q, short)

-- no file is both bad and too long
pub bad_or_long : (c : Command) (line : ℕ) (kind : BadKind) (n : ℕ) (told : Option (List ℕ)) → ReadBad c line kind n told → ToldLong n told → ⊥
bad_or_long c line kind n None p q = q
bad_or_long c line kind n (Some file) p q = let short : length file ≤ longest_file = subst (λ (b : List ℕ). length b ≤ longest_file) p.1.1 p.1.0 in omega
    (arith, q, short)

pub long_or_bad : (c : Command) (n : ℕ) (told : Option (List ℕ)) → ReadLong n told → ToldBad c n told → ⊥
long_or_bad c n None p q = q
long_or_bad c n (Some file) p q = omega (arith, p, q.0)
