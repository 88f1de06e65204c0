-- Units, as the code reads them.
use Rattle.df_journal_text.proofs.Names.{◌≡◌, ℕ, true, false, eqb, List, Some, Ok, Err, refl, ◌∙◌, Stop, maybe_at, Root, Managed, begins_with, numbers_at, instance_at, unit_at}
use Rattle.df_journal_text.proofs.Words.{maybe_not, maybe_so}

pub root_read : (bytes path rest : List ℕ) → numbers_at bytes ≡ Ok (path, rest) → begins_with 47 rest ≡ false → unit_at bytes ≡ Ok (Root path, rest)
root_read bytes path rest e h = rw (e, maybe_not 47 instance_at rest h) refl

module _ (bytes path middle : List ℕ) (e : numbers_at bytes ≡ Ok (path, middle)) (h : begins_with 47 middle ≡ true) where
  pub instance_read : (sub : ℕ) (s : List (List ℕ)) (rest : List ℕ) → instance_at middle ≡ Ok ((sub, s), rest) → unit_at bytes ≡ Ok (Managed path sub s, rest)
  instance_read sub s rest i =
      let some : maybe_at (λ c. eqb c 47) instance_at middle ≡ Ok (Some (sub, s), rest) = maybe_so 47 instance_at middle h ∙ rw i refl in
      rw (e, some) refl

  pub instance_stops : (stop : Stop ℕ) → instance_at middle ≡ Err stop → unit_at bytes ≡ Err stop
  instance_stops stop i =
      let none : maybe_at (λ c. eqb c 47) instance_at middle ≡ Err stop = maybe_so 47 instance_at middle h ∙ rw i refl in
      rw (e, none) refl
