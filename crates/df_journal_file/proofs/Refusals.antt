-- What is told of a file that isn't a journal.
use Rattle.df_journal_file.proofs.Names.{ℕ, ◌+◌, List, length, Result, Ok, Err, IfErr, IfOk, refl, IsFirstBad, FileFault, IsRead, IsLargeIn, answered, StopsIn}
use Rattle.std.proofs.lemmas.Result.{IfErr-weaker}
use Rattle.df_lines.specs.Refused.{IsRefused, NamesBadLine}
use Rattle.df_lines.specs.code.Faults.{IsInside}
use Rattle.df_lines.specs.declared.fault.FileFault.TheVariants as stop
use Rattle.df_lines.specs.declared.refused.BadKind.TheVariants.{Syntax, TooLarge}
use Rattle.df_lines.specs.declared.refused.FileRefused.{FileRefused}
use Rattle.df_lines.specs.declared.refused.FileRefused.TheVariants as refusal
use Rattle.df_lines.proofs.FirstBad.{names_line, refused_as}

-- the first bad line is told, and whether a value is too large there
pub record TellsFirstBad {J : Type 0} (IsText : List ℕ → Type 0) (bytes : List ℕ) (q : Result J FileRefused) : Type 0 where
  pub refused : IfErr q (NamesBadLine IsText (IsLargeIn IsText) bytes)
  pub syntax : (before : List (List ℕ)) (bad : List ℕ) → IsFirstBad IsText bytes before bad → ¬ IsLargeIn IsText before bad
      → IsRefused (refusal.Syntax (length before + 1)) q
  pub too_large : (before : List (List ℕ)) (bad : List ℕ) → IsFirstBad IsText bytes before bad → IsLargeIn IsText before bad
      → IsRefused (refusal.TooLarge (length before + 1)) q

module _ (IsText : List ℕ → Type 0) (bytes : List ℕ) where
  named : {J : Type 0} (r : Result J FileFault) → IfErr r (StopsIn IsText bytes 0) → IfErr (answered bytes r) (NamesBadLine IsText (IsLargeIn IsText) bytes)
  named (Ok j) s = tt
  named (Err f) s = names_line IsText (IsLargeIn IsText) bytes f s

  -- and it is inside
  within : (f : FileFault) → StopsIn IsText bytes 0 f → IsInside bytes f
  within stop.NoMemory s = tt
  within (stop.Bad place) s = s.0
  within (stop.TooLarge place) s = s.0

  pub inside : {J : Type 0} (r : Result J FileFault) → IfErr r (StopsIn IsText bytes 0) → IfErr r (IsInside bytes)
  inside r s = IfErr-weaker r (StopsIn IsText bytes 0) (IsInside bytes) within s

  -- what callers are told of what was read
  module _ {J : Type 0} {Is : J → Type 0} where
    pub read : (r : Result J FileFault) → IfOk r Is → (Q : J → Type 0) → ((j : J) → Is j → Q j) → IfOk (answered bytes r) Q
    read (Ok j) is Q to = to j is
    read (Err f) is Q to = tt

    -- of a journal nothing else is
    pub only : (r : Result J FileFault) → IfOk r Is → IfErr r (StopsIn IsText bytes 0) → IsText bytes → (Q : J → Type 0) → ((j : J) → Is j → Q j)
        → IsRead Q (answered bytes r)
    only (Ok j) is s t Q to = to j is
    only (Err stop.NoMemory) is s t Q to = refl
    only (Err (stop.Bad place)) is s t Q to = absurd (s.1.first.none t)
    only (Err (stop.TooLarge place)) is s t Q to = absurd (s.1.first.none t)

    -- of anything else its first bad line
    pub told : (r : Result J FileFault) → IfOk r Is → IfErr r (StopsIn IsText bytes 0) → ((j : J) → Is j → IsText bytes)
        → TellsFirstBad IsText bytes (answered bytes r)
    told r is s text =
        let ok : IfOk (answered bytes r) (λ _. IsText bytes) = read r is (λ _. IsText bytes) text in
        record {
          refused = named r s;
          syntax = refused_as IsText (IsLargeIn IsText) bytes (answered bytes r) ok (named r s) Syntax;
          too_large = refused_as IsText (IsLargeIn IsText) bytes (answered bytes r) ok (named r s) TooLarge;
        }
