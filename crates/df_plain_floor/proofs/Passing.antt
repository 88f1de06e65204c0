-- Steps that are made until one appends nothing.
use Rattle.df_plain_floor.proofs.Names.{◌≡◌, ℕ, ◌<◌, ◌≤◌, Bool, true, false, not, eqb, refl, sym, ◌∙◌, ap, length, arith, CrewState, AreTurns, IsAppending, Repeated, is_full, Brain, more_longer, more_same}
use Rattle.df_plain_floor.proofs.Turning.{turns_full, turns_more}

-- some steps lead from the one to the other
abbrev pub AreSteps : {S : Type 0} → (S → S → Type 0) → S → S → Type 0
AreSteps step old new = (n : ℕ) × Repeated step n old new

differ : (n k : ℕ) → not (eqb n k) ≡ true → n ≡ k → ⊥
differ n k t s = grind (arith, s, t)

agree : (n k : ℕ) → not (eqb n k) ≡ false → n ≤ k
agree n k t = grind arith

module _ {B : Type 0} (brain : Brain B) (max : ℕ) (a b : CrewState B) (m : AreTurns brain max a b) where
  -- turns without an entry have changed nothing
  pub stood : (x : Bool) → x ≡ not (eqb (length b.core.1) (length a.core.1)) → x ≡ false → b ≡ a
  stood x e f = more_same a b (turns_more brain max a b m) (agree _ _ (sym e ∙ f))

  -- whether turns appended something is told by the number of entries
  pub appending : (x : Bool) → x ≡ not (eqb (length b.core.1) (length a.core.1)) → IsAppending max x a b
  appending true e = (below (is_full max a) refl, longer)
    where
      apart : length b.core.1 ≡ length a.core.1 → ⊥
      apart = differ _ _ (sym e)

      longer : length a.core.1 < length b.core.1
      longer = let h = more_longer a b (turns_more brain max a b m) in let n = apart in omega (arith, h, n)

      below : (f : Bool) → is_full max a ≡ f → is_full max a ≡ false
      below true full = absurd (apart (ap (λ (c : CrewState B). length c.core.1) (turns_full brain max a b m full)))
      below false less = less
  appending false e = stood false e refl
