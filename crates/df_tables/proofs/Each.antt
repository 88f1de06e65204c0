-- Rows changed one after another.
use Rattle.df_tables.proofs.Names.{◌≡◌, ℕ, zero, suc, ◌+◌, ◌<◌, List, [], ◌∷◌, ◌++◌, false, if◌then◌else◌, length, get_or, set, take, refl, ap, sym, ◌∙◌, arith, take_more, Pair, each, modify}
use Rattle.std.specs.Prelude.{◌==◌}

pub set_modify : {X : Type 0} (k : ℕ) (f : X → X) (d : X) (xs : List X) → set xs k (f (get_or xs k d)) ≡ modify k f xs
set_modify k f d [] = refl
set_modify zero f d (x ∷ xs) = refl
set_modify (suc k) f d (x ∷ xs) = ap (λ l. x ∷ l) (set_modify k f d xs)

pub length-modify : {X : Type 0} (k : ℕ) (f : X → X) (xs : List X) → length (modify k f xs) ≡ length xs
length-modify k f [] = refl
length-modify zero f (x ∷ xs) = refl
length-modify (suc k) f (x ∷ xs) = let h = length-modify k f xs in omega (arith, h)

pub length-each : {X : Type 0} (f : Pair → X → X) (ps : List Pair) (xs : List X) → length (each f ps xs) ≡ length xs
length-each f [] xs = refl
length-each f (p ∷ ps) xs = length-each f ps (modify p.0 (f p) xs) ∙ length-modify p.0 (f p) xs

each_append : {X : Type 0} (f : Pair → X → X) (ps qs : List Pair) (xs : List X) → each f (ps ++ qs) xs ≡ each f qs (each f ps xs)
each_append f [] qs xs = refl
each_append f (p ∷ ps) qs xs = each_append f ps qs (modify p.0 (f p) xs)

-- a loop's step
pub each_step : {X : Type 0} (f : Pair → X → X) (ps : List Pair) (i : ℕ) (e : Pair) (d x : X) (xs ys : List X) → i < length ps → ys ≡ each f (take i ps) xs → x ≡ f (get_or ps i e) (get_or ys (get_or ps i e).0 d) → set ys (get_or ps i e).0 x ≡ each f (take (i + 1) ps) xs
each_step f ps i e d x xs ys h is q =
    ap (λ z. set ys (get_or ps i e).0 z) q
    ∙ set_modify (get_or ps i e).0 (f (get_or ps i e)) d ys
    ∙ ap (modify (get_or ps i e).0 (f (get_or ps i e))) is
    ∙ sym (ap (λ qs. each f qs xs) (take_more ps i e h) ∙ each_append f (take i ps) (get_or ps i e ∷ []) xs)

-- one row, changed by the receivers at its place
abbrev pub turned : {X : Type 0} → (Pair → X → X) → List Pair → ℕ → X → X
turned f [] k x = x
turned f (p ∷ ps) k x = turned f ps k (if p.0 == k then f p x else x)

pub at_modify : {X : Type 0} (j : ℕ) (f : X → X) (xs : List X) (k : ℕ) (d : X) → k < length xs → get_or (modify j f xs) k d ≡ (if j == k then f (get_or xs k d) else get_or xs k d)
at_modify j f [] k d h = absurd (omega arith)
at_modify zero f (x ∷ xs) zero d h = refl
at_modify zero f (x ∷ xs) (suc k) d h = let e : (0 == suc k) ≡ false = grind arith in rw e refl
at_modify (suc j) f (x ∷ xs) zero d h = let e : (suc j == 0) ≡ false = grind arith in rw e refl
at_modify (suc j) f (x ∷ xs) (suc k) d h = let e : (suc j == suc k) ≡ (j == k) = grind arith in rw e (at_modify j f xs k d (omega arith))

pub at_each : {X : Type 0} (f : Pair → X → X) (ps : List Pair) (xs : List X) (k : ℕ) (d : X) → k < length xs → get_or (each f ps xs) k d ≡ turned f ps k (get_or xs k d)
at_each f [] xs k d h = refl
at_each f (p ∷ ps) xs k d h =
    at_each f ps (modify p.0 (f p) xs) k d (let e = length-modify p.0 (f p) xs in omega (arith, e, h))
    ∙ ap (turned f ps k) (at_modify p.0 (f p) xs k d h)
