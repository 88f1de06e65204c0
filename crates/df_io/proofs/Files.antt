-- A file that is put where one of its name stands, or at the end.
use Rattle.std.proofs.Common.{◌≡◌, ℕ, suc, ◌+◌, Bool, true, false, if◌then◌else◌, List, [], ◌∷◌, ◌++◌, set, refl, ap, sym, ◌∙◌, subst, arith, Option, Some, None, option_map}
use Rattle.std.specs.List.{find, position_from}
use Rattle.std.specs.Str.{bytes_eq}
use Rattle.std.proofs.lemmas.Slice.Eq.{bytes_eq-Decides}
use Rattle.df_io.specs.Files.{bytes_of, PutsFile}

abbrev pub Listed : Type 0
Listed = List ℕ × List ℕ

abbrev pub is_named : List ℕ → Listed → Bool
is_named name f = bytes_eq f.0 name

-- what is in the first file, or in those behind it
bytes_of-cons : (n : List ℕ) (f : Listed) (fs : List Listed) → bytes_of n (f ∷ fs) ≡ (if bytes_eq f.0 n then Some f.1 else bytes_of n fs)
bytes_of-cons n f fs = by (bytes_eq f.0 n)
  where
    by : (b : Bool) → option_map (λ (g : Listed). g.1) (if b then Some f else find (is_named n) fs) ≡ (if b then Some f.1 else bytes_of n fs)
    by true = refl
    by false = refl

-- two tests that don't pass together may change places
swapped : (p q : Bool) (x y z : Option (List ℕ)) → (p ≡ true → q ≡ true → ⊥) → (if q then x else (if p then y else z)) ≡ (if p then y else (if q then x else z))
swapped true true x y z never = absurd (never refl refl)
swapped true false x y z never = refl
swapped false true x y z never = refl
swapped false false x y z never = refl

-- a test is made once
once : (p : Bool) (x y z : Option (List ℕ)) → (if p then x else z) ≡ (if p then x else (if p then y else z))
once true x y z = refl
once false x y z = refl

-- a file of another name isn't one of this name
not_both : (a name n : List ℕ) → bytes_eq a name ≡ false → bytes_eq name n ≡ true → bytes_eq a n ≡ true → ⊥
not_both a name n f p q =
    let e : a ≡ name = (bytes_eq-Decides a n).0 q ∙ sym ((bytes_eq-Decides name n).0 p) in
    let h : bytes_eq a name ≡ true = (bytes_eq-Decides a name).1 e in cc

-- a file of this name is put in the first place, or where it is put behind it
here : (name bytes n : List ℕ) (f : Listed) (fs : List Listed) → bytes_eq f.0 name ≡ true → bytes_of n ((name, bytes) ∷ fs) ≡ (if bytes_eq name n then Some bytes else bytes_of n (f ∷ fs))
here name bytes n f fs e =
    bytes_of-cons n (name, bytes) fs ∙ once (bytes_eq name n) (Some bytes) (Some f.1) (bytes_of n fs) ∙ ap (λ (a : List ℕ). if bytes_eq name n then Some bytes else (if bytes_eq a n then Some f.1 else bytes_of n fs)) (sym ((bytes_eq-Decides f.0 name).0 e)) ∙ ap (λ (o : Option (List ℕ)). if bytes_eq name n then Some bytes else o) (sym (bytes_of-cons n f fs))

behind : (name bytes n : List ℕ) (f : Listed) (fs gs : List Listed) → bytes_eq f.0 name ≡ false → PutsFile name bytes fs gs → bytes_of n (f ∷ gs) ≡ (if bytes_eq name n then Some bytes else bytes_of n (f ∷ fs))
behind name bytes n f fs gs e puts =
    bytes_of-cons n f gs ∙ ap (λ (o : Option (List ℕ)). if bytes_eq f.0 n then Some f.1 else o) (puts n) ∙ swapped (bytes_eq name n) (bytes_eq f.0 n) (Some f.1) (Some bytes) (bytes_of n fs) (not_both f.0 name n e) ∙ ap (λ (o : Option (List ℕ)). if bytes_eq name n then Some bytes else o) (sym (bytes_of-cons n f fs))

-- put at the end, where no file has this name
pub put_end : (name bytes : List ℕ) (fs : List Listed) (i : ℕ) → position_from (is_named name) i fs ≡ None → PutsFile name bytes fs (fs ++ (name, bytes) ∷ [])
put_end name bytes [] i h n = bytes_of-cons n (name, bytes) []
put_end name bytes (f ∷ fs) i h n = by (bytes_eq f.0 name) refl (put_end name bytes fs (i + 1)) h
  where
    by : (b : Bool) → bytes_eq f.0 name ≡ b → (position_from (is_named name) (i + 1) fs ≡ None → PutsFile name bytes fs (fs ++ (name, bytes) ∷ [])) → (if b then Some i else position_from (is_named name) (i + 1) fs) ≡ None → bytes_of n (f ∷ (fs ++ (name, bytes) ∷ [])) ≡ (if bytes_eq name n then Some bytes else bytes_of n (f ∷ fs))
    by true e ih g = absurd (cc)
    by false e ih g = behind name bytes n f fs (fs ++ (name, bytes) ∷ []) e (ih g)

-- put k places on, where the first file of this name stands
put_from : (name bytes : List ℕ) (fs : List Listed) (i m : ℕ) → position_from (is_named name) i fs ≡ Some m → (k : ℕ) × (m ≡ i + k) × PutsFile name bytes fs (set fs k (name, bytes))
put_from name bytes [] i m h = absurd (cc)
put_from name bytes (f ∷ fs) i m h = by (bytes_eq f.0 name) refl (put_from name bytes fs (i + 1) m) h
  where
    by : (b : Bool) → bytes_eq f.0 name ≡ b → (position_from (is_named name) (i + 1) fs ≡ Some m → (k : ℕ) × (m ≡ i + 1 + k) × PutsFile name bytes fs (set fs k (name, bytes))) → (if b then Some i else position_from (is_named name) (i + 1) fs) ≡ Some m → (k : ℕ) × (m ≡ i + k) × PutsFile name bytes (f ∷ fs) (set (f ∷ fs) k (name, bytes))
    by true e ih g = let z : i ≡ m = cc in (0, omega arith, λ n. here name bytes n f fs e)
    by false e ih g = let r = ih g in (suc r.0, omega (arith, r.1), λ n. behind name bytes n f fs (set fs r.0 (name, bytes)) e r.2)

-- put where the first file of this name stands
pub put_at : (name bytes : List ℕ) (fs : List Listed) (k : ℕ) → position_from (is_named name) 0 fs ≡ Some k → PutsFile name bytes fs (set fs k (name, bytes))
put_at name bytes fs k h =
    let r = put_from name bytes fs 0 k h in
    let e : r.0 ≡ k = omega (arith, r.1) in
    subst (λ (j : ℕ). PutsFile name bytes fs (set fs j (name, bytes))) e r.2
