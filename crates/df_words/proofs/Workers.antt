-- Words that ask for a floor with workers.
use Rattle.std.proofs.Common.{◌≡◌, ℕ, ◌<◌, List, [], ◌∷◌, length, get_or, Ok, Some, codes, decimal, refl, ap, subst}
use Rattle.df_words.specs.Words.{Ask, IsCommandOf, IsCountIn}
use Rattle.df_words.specs.declared.command.Command.{Command}
use Rattle.df_words.specs.declared.command.Command.TheVariants.{FloorWorkers}

module _ (one other count : List ℕ) (w : ℕ) (is : IsCountIn 16 count (Some w)) where
  abbrev words : List (List ℕ)
  words = codes "floor" ∷ one ∷ other ∷ codes "--workers" ∷ count ∷ []

  -- the floor with so many workers is what the words ask for, and nothing else
  asked_back : (c : Command) → Ask words c → FloorWorkers 1 2 w ≡ c
  asked_back (FloorWorkers config ticks workers) ask =
      let spelled : count ≡ decimal workers = ap (λ (ws : List (List ℕ)). get_or ws 4 []) ask.2 in
      let told = (is workers).1 (spelled, ask.7) in
      let same : w ≡ workers = cc in
      let first : config ≡ 1 = ask.5 in
      let second : ticks ≡ 2 = ask.6 in
      cc
  asked_back _ ask = absurd (let no : ⊥ = cc in no)

  pub workers_asked : 0 < length one → 0 < length other → IsCommandOf words (Ok (FloorWorkers 1 2 w))
  workers_asked long long_too c = (
    λ same.
        let spelled = (is w).0 refl in
        subst (Ask words) same
        (one, other, ap (λ (d : List ℕ). codes "floor" ∷ one ∷ other ∷ codes "--workers" ∷ d ∷ []) spelled.0, long, long_too, refl, refl, spelled.1),
    asked_back c,
  )
