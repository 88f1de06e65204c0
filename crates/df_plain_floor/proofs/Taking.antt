-- Units take one turn each, one after another.
use Rattle.df_plain_floor.proofs.Names.{◌≡◌, ◌⊎◌, inl, inr, ℕ, suc, ◌+◌, ◌<◌, ◌≤◌, List, ◌∷◌, refl, sym, ◌∙◌, ap, subst, Some, length, get_or, drop, arith, add-one, drop-cons, slice_get, CrewState, more_longer, more_same, AreTurns, HasBrain, take_turn, take_turns, Brain, UnitName}
use Rattle.std.proofs.lemmas.Option.{get_or_from_slice_get, slice_get_within}
use Rattle.df_plain_floor.proofs.Turning.{no_turns, one_turn, turns_more, turns_trans}

-- so many of the units have taken their turns
pub record HaveTaken {B : Type 0} (brain : Brain B) (max : ℕ) (units : List UnitName) (old : CrewState B) (count : ℕ) (now : CrewState B) : Type 0 where
  pub rest : take_turns brain max (drop count units) now ≡ take_turns brain max units old
  pub turns : AreTurns brain max old now
  pub brains : length now.core.1 ≤ length old.core.1 → (k : ℕ) (u : UnitName) → k < count → slice_get units k ≡ Some u → HasBrain brain max old u

module _ {B : Type 0} (brain : Brain B) (max : ℕ) (us : List UnitName) (old : CrewState B) where
  pub none_taken : HaveTaken brain max us old 0 old
  none_taken = record { rest = refl; turns = no_turns brain max old; brains = λ h k u few e. absurd (let z : ⊥ = omega arith in z) }

  one_rest : (i : ℕ) (now new : CrewState B) (u : UnitName) → i < length us → u ≡ get_or us i u → new ≡ take_turn brain max u now →
      take_turns brain max (drop (suc i) us) new ≡ take_turns brain max (drop i us) now
  one_rest i now new u h is e =
      ap (take_turns brain max (drop (suc i) us)) e
      ∙ ap (λ (v : UnitName). take_turns brain max (v ∷ drop (suc i) us) now) is
      ∙ ap (λ (vs : List UnitName). take_turns brain max vs now) (sym (drop-cons us i u h))

  module _ (i : ℕ) (now new : CrewState B) (u : UnitName) (h : i < length us) (is : u ≡ get_or us i u) (t : HaveTaken brain max us old i now)
      (e : new ≡ take_turn brain max u now) (b : HasBrain brain max now u) where
    one_more : AreTurns brain max old new
    one_more = turns_trans brain max old now new t.turns (one_turn brain max u now new e)

    one_brain : length new.core.1 ≤ length old.core.1 → (k : ℕ) (v : UnitName) → k < suc i → slice_get us k ≡ Some v → HasBrain brain max old v
    one_brain short k v few at = by (split k few)
      where
        split : (k : ℕ) → k < suc i → (k < i) ⊎ (k ≡ i)
        split k few = grind arith

        longer : length now.core.1 ≤ length new.core.1
        longer = more_longer now new (turns_more brain max now new (one_turn brain max u now new e))

        same : now ≡ old
        same = more_same old now (turns_more brain max old now t.turns) (omega (arith, longer, short))

        by : (k < i) ⊎ (k ≡ i) → HasBrain brain max old v
        by (inl less) = t.brains (omega (arith, longer, short)) k v less at
        by (inr here) =
            let name : v ≡ u = sym (get_or_from_slice_get us k v u at) ∙ ap (λ (j : ℕ). get_or us j u) here ∙ sym is in
            subst (λ (w : UnitName). HasBrain brain max old w) (sym name) (subst (λ (c : CrewState B). HasBrain brain max c u) same b)

    pub one_taken : HaveTaken brain max us old (i + 1) new
    one_taken = rw add-one (record { rest = one_rest i now new u h is e ∙ t.rest; turns = one_more; brains = one_brain })

  module _ (i : ℕ) (now : CrewState B) (end : length us ≤ i) (t : HaveTaken brain max us old i now) where
    pub all_brains : now ≡ old → (k : ℕ) (u : UnitName) → slice_get us k ≡ Some u → HasBrain brain max old u
    all_brains same k u at =
        let short : length now.core.1 ≤ length old.core.1 = (let z = ap (λ (c : CrewState B). length c.core.1) same in omega (arith, z)) in
        let within = slice_get_within us k u at in
        t.brains short k u (omega (arith, within, end)) at
