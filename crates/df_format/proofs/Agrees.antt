-- Readers that agree on short texts do so in what is made of them.
use Rattle.df_format.proofs.Names.{◌≡◌, ℕ, zero, suc, ◌≤◌, Bool, cond, List, [], ◌∷◌, length, Ok, refl, ap, ◌∙◌, length-append, arith, Read, ◌>>=◌, as_at, then_at, either_at, behind_at, closed_at, text_at, more_at, more_of, items_at}
use Rattle.std.specs.Prelude.{◌+◌}
use Rattle.df_format.proofs.ItemSteps.{Shrinks, onto}
use Rattle.df_format.proofs.Laws.{bind_same}
use Rattle.df_format.proofs.Texts.{text_found}

-- what they read of no more tokens is the same
pub record Agree {T X : Type 0} (n : ℕ) (r s : List T → Read T X) : Type 0 where
  pub same : (tokens : List T) → length tokens ≤ n → r tokens ≡ s tokens

pub itself_agrees : {T X : Type 0} {n : ℕ} (r : List T → Read T X) → Agree n r r
itself_agrees r = record { same = λ tokens le. refl }

module _ {X : Type 0} {n : ℕ} {r s : List ℕ → Read ℕ X} (a : Agree n r s) where
  pub behind_agree : {m : ℕ} (ws : List ℕ) → m ≤ length ws + n → Agree m (behind_at ws r) (behind_at ws s)
  behind_agree ws le = record {
    same = λ tokens few. bind_same (text_at ws tokens) (λ h. r h.1) (λ h. s h.1)
        (λ h e. a.same h.1 (omega (arith, le, few, ap length (text_found ws tokens h.0 h.1 e).1, length-append ws h.1)));
  }

  pub closed_agree : (ws : List ℕ) → Agree n (closed_at ws r) (closed_at ws s)
  closed_agree ws = record {
    same = λ tokens few. ap (λ (z : Read ℕ X). z >>= λ x. text_at ws x.1 >>= λ h. Ok (x.0, h.1)) (a.same tokens few);
  }

module _ {T X : Type 0} {n : ℕ} {r s : List T → Read T X} (a : Agree n r s) where
  pub as_agree : {Y : Type 0} (make : X → Y) → Agree n (as_at make r) (as_at make s)
  as_agree make = record { same = λ tokens few. ap (λ (z : Read T X). z >>= λ x. Ok (make x.0, x.1)) (a.same tokens few) }

  pub then_agree : {Y : Type 0} (first : List T → Read T Y) → Shrinks first → Agree n (then_at first r) (then_at first s)
  then_agree first shrinks = record {
    same = λ tokens few. bind_same (first tokens) (λ y. r y.1 >>= λ x. Ok ((y.0, x.0), x.1)) (λ y. s y.1 >>= λ x. Ok ((y.0, x.0), x.1))
        (λ y e. ap (λ (z : Read T X). z >>= λ x. Ok ((y.0, x.0), x.1)) (a.same y.1 (omega (arith, few, shrinks tokens y.0 y.1 e))));
  }

  pub either_agree : {q u : List T → Read T X} (begins : T → Bool) → Agree n q u → Agree n (either_at begins r q) (either_at begins s u)
  either_agree {q} {u} begins b = record { same = both }
    where
      both : (tokens : List T) → length tokens ≤ n → either_at begins r q tokens ≡ either_at begins s u tokens
      both [] few = refl
      both (t ∷ ts) few = ap (λ z. cond (begins t) z (q (t ∷ ts))) (a.same (t ∷ ts) few) ∙ ap (cond (begins t) (s (t ∷ ts))) (b.same (t ∷ ts) few)

  pub items_agree : (leads : X → T → List T → Bool) (f g : X → List T → Read T X) → Shrinks r → ((x : X) → Shrinks (f x))
      → ((x : X) → Agree n (f x) (g x)) → Agree n (items_at leads r f) (items_at leads s g)
  items_agree leads f g shrinks each b = record {
    same = λ tokens few. bind_same (r tokens) (λ x. more_of leads f x.0 x.1 >>= λ xs. Ok ((x.0, xs.0), xs.1))
        (λ x. more_of leads g x.0 x.1 >>= λ xs. Ok ((x.0, xs.0), xs.1)) (λ x e. ap (λ (z : Read T (List X)). z >>= λ xs. Ok ((x.0, xs.0), xs.1))
        (more (length x.1) x.0 x.1 (omega (arith, few, shrinks tokens x.0 x.1 e))))
        ∙ ap (λ (z : Read T X). z >>= λ x. more_of leads g x.0 x.1 >>= λ xs. Ok ((x.0, xs.0), xs.1)) (a.same tokens few);
  }
    where
      more : (k : ℕ) (prev : X) (tokens : List T) → length tokens ≤ n → more_at leads f k prev tokens ≡ more_at leads g k prev tokens
      more k prev [] few = refl
      more zero prev (t ∷ ts) few = refl
      more (suc k) prev (t ∷ ts) few =
          ap (λ (z : Read T (List X)). cond (leads prev t ts) z (Ok ([], t ∷ ts)))
          (bind_same (f prev ts) (λ x. more_at leads f k x.0 x.1 >>= onto x.0) (λ x. more_at leads g k x.0 x.1 >>= onto x.0) (λ x e.
          ap (λ (z : Read T (List X)). z >>= onto x.0) (more k x.0 x.1 (omega (arith, few, each prev ts x.0 x.1 e))))
          ∙ ap (λ (z : Read T X). z >>= λ x. more_at leads g k x.0 x.1 >>= onto x.0) ((b prev).same ts (omega (arith, few))))
