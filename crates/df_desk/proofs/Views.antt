-- What the views of the other seats know after a step, and where a view stands among all.
use Rattle.std.proofs.Common.{◌≡◌, ◌≢◌, ℕ, zero, suc, ◌<◌, List, [], ◌∷◌, length, set, sym, refl, ap, ◌∙◌, subst, ⊎_elim, arith}
use mathlib.Core.Option.{some, some-injective, some-ne-none}
use lib.ListN.{get_elem?}
use Rattle.atomic_table.proofs.Lists.{at_set}
use Rattle.df_desk.specs.declared.view.View.{View}
use Rattle.df_desk.specs.declared.view.View.TheVariants.{Spent, Idle, Joined, Called, Counted}
use Rattle.df_desk.specs.View.{IsOut}
use Rattle.df_desk.specs.Rule.{GoesOnFrom, Knows}
use Rattle.df_desk.proofs.Prefixes.{prefix_refl, prefix_trans}

-- a place that has an element is below the length
pub below_length : {A : Type 0} (l : List A) (i : ℕ) (a : A) → get_elem? l i ≡ some a → i < length l
below_length [] i a e = absurd (some-ne-none a (sym e))
below_length (x ∷ xs) zero a e = omega arith
below_length (x ∷ xs) (suc i) a e = let h = below_length xs i a e in omega arith

-- what a joined view remembers first
pub joined_first : {V : Type 0} (v w v' w' : V) → Joined v w ≡ Joined v' w' → v ≡ v'
joined_first v w v' w' e = cc

-- what a joined view remembers second
pub joined_second : {V : Type 0} (v w v' w' : V) → Joined v w ≡ Joined v' w' → w ≡ w'
joined_second v w v' w' e = cc

module _ {V : Type 0} where
  -- what holds of the new view at its place, and of each other view at its own, holds of all
  pub each_set : (K : ℕ → View V → Type 0) (vs : List (View V)) (me : ℕ) (w : View V) → K me w
      → ((j : ℕ) (d : View V) → j ≢ me → get_elem? vs j ≡ some d → K j d)
      → (j : ℕ) (d : View V) → get_elem? (set vs me w) j ≡ some d → K j d
  each_set K vs me w mine others j d e = ⊎_elim (λ (t : (j ≡ me) × (w ≡ d)). subst (λ (x : ℕ × View V). K x.0 x.1) (λ i. (sym t.0 i, t.1 i)) mine)
      (λ (t : (j ≢ me) × (get_elem? vs j ≡ some d)). others j d t.0 t.1) (at_set vs me j w d e)

  -- the seat that has the value is not one that hasn't
  pub other_seat : (vs : List (View V)) (holder id : ℕ) (d mine : View V) → get_elem? vs id ≡ some mine → (IsOut mine → ⊥)
      → get_elem? vs holder ≡ some d → IsOut d → holder ≢ id
  other_seat vs holder id d mine at idle there out e =
      let same : mine ≡ d = some-injective mine d (sym at ∙ (ap (get_elem? vs) (sym e) ∙ there)) in idle (subst IsOut (sym same) out)

module _ {V O E : Type 0} (origin : V → O) (list : V → List E) where
  -- each value begins itself
  pub goes_on_from_itself : (v : V) → GoesOnFrom origin list v v
  goes_on_from_itself v = (refl, prefix_refl (list v))

  -- what begins a beginning begins the whole
  pub goes_on_from_both : (x y v : V) → GoesOnFrom origin list x y → GoesOnFrom origin list y v → GoesOnFrom origin list x v
  goes_on_from_both x y v p q = (q.0 ∙ p.0, prefix_trans (list v) (list y) (list x) q.1 p.1)

  -- what a view knows stays when seat `id` calls the value
  pub knows_called : (x : V) (held holder id j : ℕ) (d : View V) → held ≡ 0 → Knows origin list x held holder j d
      → Knows origin list x 1 id j d
  knows_called x held holder id j Spent free h = tt
  knows_called x held holder id j (Idle v) free h = h
  knows_called x held holder id j (Joined v w) free h = h
  knows_called x held holder id j (Called v) free h = absurd (omega (arith, h.2))
  knows_called x held holder id j (Counted v) free h = absurd (omega (arith, h.2))

  -- what another view knows stays when the holder counts a value that goes on from the desk's
  pub knows_counted : (x w : V) (held holder j : ℕ) (d : View V) → j ≢ holder → GoesOnFrom origin list w x
      → Knows origin list x held holder j d → Knows origin list w held holder j d
  knows_counted x w held holder j Spent ne b h = tt
  knows_counted x w held holder j (Idle v) ne b h = goes_on_from_both w x v b h
  knows_counted x w held holder j (Joined v u) ne b h = (goes_on_from_both w x v b h.0, goes_on_from_both w x u b h.1)
  knows_counted x w held holder j (Called v) ne b h = absurd (ne h.1)
  knows_counted x w held holder j (Counted v) ne b h = absurd (ne h.1)

  -- what another view knows stays when the holder frees the desk
  pub knows_freed : (x : V) (held holder j : ℕ) (d : View V) → j ≢ holder → Knows origin list x held holder j d
      → Knows origin list x 0 holder j d
  knows_freed x held holder j Spent ne h = tt
  knows_freed x held holder j (Idle v) ne h = h
  knows_freed x held holder j (Joined v u) ne h = h
  knows_freed x held holder j (Called v) ne h = absurd (ne h.1)
  knows_freed x held holder j (Counted v) ne h = absurd (ne h.1)
