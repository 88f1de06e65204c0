-- Steps of readers of items with a separator between each two.
use Rattle.df_format.proofs.Names.{◌≡◌, ℕ, zero, suc, ◌≤◌, Bool, true, false, cond, List, [], ◌∷◌, ◌++◌, length, Ok, Err, refl, sym, ap, ◌∙◌, append_assoc, length-append, arith, Stop, Read, ◌>>=◌, more_at, more_of, with_front, Format}
use Rattle.std.proofs.lemmas.List.{append-nil}
use Rattle.df_format.proofs.Laws.{bind_same}

-- ---- steps

-- what is left is no longer than all
abbrev pub Shrinks : {T X : Type 0} → (List T → Read T X) → Type 0
Shrinks {T} {X} read = (tokens : List T) (x : X) (rest : List T) → read tokens ≡ Ok (x, rest) → length rest ≤ length tokens

pub format_shrinks : {T X : Type 0} (IsLow : List T → List T → Type 0) (spell : X → List T) (Fits : X → Type 0) (goes : X → T → Bool)
    (read : List T → Read T X) → Format IsLow spell Fits goes read → Shrinks read
format_shrinks IsLow spell Fits goes read f tokens x rest e = omega (arith, ap length (f.found tokens x rest e).parts, length-append (spell x) rest)

abbrev pub onto : {T X : Type 0} → X → List X × List T → Read T (List X)
onto x xs = Ok (x ∷ xs.0, xs.1)

pub regroup : {T X : Type 0} (front : List X) (x : X) (read : Read T (List X)) → with_front front (read >>= onto x) ≡ with_front (front ++ x ∷ []) read
regroup front x (Ok xs) = ap (λ ys. Ok (ys, xs.1)) (simp append_assoc)
regroup front x (Err s) = refl

module _ {T X : Type 0} (leads : X → T → List T → Bool) (next : X → List T → Read T X) where
  pub more_stop : (prev : X) (t : T) (ts : List T) → leads prev t ts ≡ false → more_of leads next prev (t ∷ ts) ≡ Ok ([], t ∷ ts)
  more_stop prev t ts h = rw h refl

  pub no_more : (front : List X) (prev : X) (tokens : List T) (total : Read T (List X)) → ((t : T) (ts : List T) → tokens ≡ t ∷ ts → leads prev t ts ≡ false)
      → with_front front (more_of leads next prev tokens) ≡ total → total ≡ Ok (front, tokens)
  no_more front prev [] total h so_far = sym so_far ∙ ap (λ xs. Ok (xs, [])) (append-nil front)
  no_more front prev (t ∷ ts) total h so_far =
      sym so_far ∙ ap (with_front front) (more_stop prev t ts (h t ts refl)) ∙ ap (λ xs. Ok (xs, t ∷ ts)) (append-nil front)

  module _ (sh : (prev : X) → Shrinks (next prev)) where
    more_fuel : (n m : ℕ) (prev : X) (tokens : List T) → length tokens ≤ n → length tokens ≤ m
        → more_at leads next n prev tokens ≡ more_at leads next m prev tokens
    more_fuel n m prev [] l k = refl
    more_fuel zero m prev (t ∷ ts) l k = absurd (omega arith)
    more_fuel (suc n) zero prev (t ∷ ts) l k = absurd (omega arith)
    more_fuel (suc n) (suc m) prev (t ∷ ts) l k =
        ap (λ (r : Read T (List X)). cond (leads prev t ts) r (Ok ([], t ∷ ts)))
        (bind_same (next prev ts) (λ x. more_at leads next n x.0 x.1 >>= onto x.0) (λ x. more_at leads next m x.0 x.1 >>= onto x.0) (λ x e.
        let shorter = sh prev ts x.0 x.1 e in
        ap (λ (r : Read T (List X)). r >>= onto x.0) (more_fuel n m x.0 x.1 (omega arith) (omega arith))))

    -- behind a token that leads on, an item and what stands behind that
    pub more_step : (prev : X) (t : T) (ts : List T) → leads prev t ts ≡ true
        → more_of leads next prev (t ∷ ts) ≡ (next prev ts >>= λ x. more_of leads next x.0 x.1 >>= onto x.0)
    more_step prev t ts h =
        ap (λ b. cond b (next prev ts >>= λ x. more_at leads next (length ts) x.0 x.1 >>= onto x.0) (Ok ([], t ∷ ts))) h
        ∙ bind_same (next prev ts) (λ x. more_at leads next (length ts) x.0 x.1 >>= onto x.0) (λ x. more_of leads next x.0 x.1 >>= onto x.0) (λ x e.
        ap (λ (r : Read T (List X)). r >>= onto x.0) (more_fuel (length ts) (length x.1) x.0 x.1 (sh prev ts x.0 x.1 e) (omega arith)))

    -- as a loop reads them
    pub item_read : (front : List X) (prev x : X) (tokens : List T) (t : T) (ts rest : List T) (total : Read T (List X)) → tokens ≡ t ∷ ts
        → leads prev t ts ≡ true → next prev ts ≡ Ok (x, rest) → with_front front (more_of leads next prev tokens) ≡ total
        → with_front (front ++ x ∷ []) (more_of leads next x rest) ≡ total
    item_read front prev x tokens t ts rest total is h e so_far =
        let step : more_of leads next prev (t ∷ ts) ≡ (more_of leads next x rest >>= onto x) = more_step prev t ts h ∙ rw e refl in
        sym (regroup front x (more_of leads next x rest)) ∙ ap (with_front front) (sym step)
        ∙ ap (λ (u : List T). with_front front (more_of leads next prev u)) (sym is) ∙ so_far

    pub item_failed : (front : List X) (prev : X) (tokens : List T) (t : T) (ts : List T) (s : Stop T) (total : Read T (List X)) → tokens ≡ t ∷ ts
        → leads prev t ts ≡ true → next prev ts ≡ Err s → with_front front (more_of leads next prev tokens) ≡ total → total ≡ Err s
    item_failed front prev tokens t ts s total is h e so_far =
        sym so_far ∙ ap (λ (u : List T). with_front front (more_of leads next prev u)) is ∙ ap (with_front front) (more_step prev t ts h) ∙ rw e refl
