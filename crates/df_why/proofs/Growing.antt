-- Queues as they grow.
use Rattle.std.proofs.Common.{◌≡◌, ◌⊎◌, inl, inr, ℕ, zero, suc, ◌+◌, ◌<◌, ◌≤◌, List, [], ◌∷◌, ◌++◌, Bool, true, false, length, get_or, replicate, refl, sym, ◌∙◌, ap, cond, Option, Some, arith}
use Rattle.std.specs.Prelude.{drop, slice_set}
use Rattle.std.specs.BTreeMap.{BTreeMap}
use Rattle.std.proofs.Math.Seq.{get_or-append_seam}
use Rattle.std.proofs.lemmas.Bool.{cases_lt}
use Rattle.std.proofs.lemmas.List.{get_or_append_left, length-append}
use Rattle.df_machine.specs.Journal.{State}
use Rattle.df_unit.specs.declared.name.UnitName.{UnitName}
use Rattle.df_why.specs.code.Arising.{QueueState}
use Rattle.df_why.specs.code.Queues.{all_grown, modify, taken_at, taken_by, taken_more}
use Rattle.df_why.specs.declared.tracks.Track.{Track}

-- places that are added one by one
abbrev pub IsAddedSoFar : QueueState → ℕ → ℕ → ℕ → List ℕ → Type 0
IsAddedSoFar old place n taken places = (taken ≡ old.taken) × (places ≡ old.places ++ replicate n place)

-- an element is changed

pub modify_set : {A : Type 0} (k : ℕ) (f : A → A) (xs : List A) (x y : A) → k < length xs → y ≡ f (get_or xs k x) → slice_set xs k y ≡ modify k f xs
modify_set k f [] x y lt is = absurd (omega (arith, lt))
modify_set zero f (z ∷ xs) x y lt is = ap (λ w. w ∷ xs) is
modify_set {A} (suc k) f (z ∷ xs) x y lt is = ap (λ (l : List A). z ∷ l) (modify_set k f xs x y (omega (arith, lt)) is)

pub modify_past : {A : Type 0} (k : ℕ) (f : A → A) (xs : List A) → length xs ≤ k → modify k f xs ≡ xs
modify_past k f [] le = refl
modify_past zero f (z ∷ xs) le = absurd (omega (arith, le))
modify_past {A} (suc k) f (z ∷ xs) le = ap (λ (l : List A). z ∷ l) (modify_past k f xs (omega (arith, le)))

pub taken_of : (t : Track) (queues : List QueueState) (k : ℕ) → t.is_given ≡ true → t.actor ≡ Some k → taken_at t queues ≡ modify k taken_more queues
taken_of t queues k given actor = ap (λ (b : Bool). cond b (taken_by t.actor queues) queues) given ∙ ap (λ (n : Option ℕ). taken_by n queues) actor

pub taken_none : (t : Track) (queues : List QueueState) → t.is_given ≡ false → taken_at t queues ≡ queues
taken_none t queues given = ap (λ (b : Bool). cond b (taken_by t.actor queues) queues) given

-- the queues of the first units are grown
abbrev pub IsGrownSoFar : State → BTreeMap UnitName ℕ → List UnitName → ℕ → List QueueState → ℕ → List QueueState → Type 0
IsGrownSoFar core units names here first i queues = all_grown core units (drop i names) here queues ≡ all_grown core units names here first

-- a list that is filled place by place
pub record IsFilled {A : Type 0} (d : A) (f : ℕ → A) (i : ℕ) (xs : List A) : Type 0 where
  pub count : length xs ≡ i
  pub each : (p : ℕ) → p < i → get_or xs p d ≡ f p

pub filled_more : {A : Type 0} (d : A) (f : ℕ → A) (i : ℕ) (xs ys : List A) (x : A) → IsFilled d f i xs → ys ≡ xs ++ x ∷ [] → x ≡ f i → IsFilled d f (i + 1) ys
filled_more {A} d f i xs ys x so pushed is = record {
  count = ap (λ (l : List A). length l) pushed ∙ length-append xs (x ∷ []) ∙ ap (λ (n : ℕ). n + 1) so.count;
  each = λ p lt. ap (λ (l : List A). get_or l p d) pushed ∙ go p lt (cases_lt p i);
}
  where
    go : (p : ℕ) → p < i + 1 → (p < i) ⊎ (i ≤ p) → get_or (xs ++ x ∷ []) p d ≡ f p
    go p lt (inl before) = let n = so.count in get_or_append_left xs (x ∷ []) d p (omega (arith, before, n)) ∙ so.each p before
    go p lt (inr after) =
        let n = so.count in
        let here : length xs ≡ p = omega (arith, lt, after, n) in
        let at : i ≡ p = omega (arith, lt, after) in
        ap (λ (k : ℕ). get_or (xs ++ x ∷ []) k d) (sym here) ∙ get_or-append_seam xs x [] d ∙ is ∙ ap f at
