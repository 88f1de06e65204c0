-- What a crash leaves, in other words, and over runs of calls.
use Rattle.df_durable.proofs.Names.{inl, inr, ⊎_elim, ℕ, List, arith, LeavesOnly}

module _ {D : Type 0} (moment : D → ℕ) (left_since : D → ℕ → List ℕ → Type 0) where
  pub leaves_too : (old new : D) (P Q : List ℕ → Type 0) → ((c : List ℕ) → P c → Q c) → LeavesOnly moment left_since old new P
      → LeavesOnly moment left_since old new Q
  leaves_too old new P Q f leaves = record {
    later = leaves.later;
    each = λ c left. f c (leaves.each c left);
    before = λ t c le left. ⊎_elim (λ was. inl was) (λ now. inr (f c now)) (leaves.before t c le left);
  }

  -- one run behind another
  pub leaves_on : (old mid new : D) (P Q R : List ℕ → Type 0) → LeavesOnly moment left_since old mid P → LeavesOnly moment left_since mid new Q
      → ((c : List ℕ) → P c → R c) → ((c : List ℕ) → Q c → R c) → LeavesOnly moment left_since old new R
  leaves_on old mid new P Q R first second f g = record {
    later = omega (arith, first.later, second.later);
    each = λ c left. ⊎_elim (λ was. f c (first.each c was)) (λ now. g c now) (second.before (moment old) c first.later left);
    before = λ t c le left. ⊎_elim (λ was. ⊎_elim (λ earlier. inl earlier) (λ then. inr (f c then)) (first.before t c le was)) (λ now. inr (g c now))
        (second.before t c (omega (arith, le, first.later)) left);
  }
