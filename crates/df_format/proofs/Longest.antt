-- What is read is the longest thing that stands there, and the longest is read.
use Rattle.df_format.proofs.Names.{◌≡◌, Bool, ◌<◌, ◌≤◌, List, [], ◌∷◌, ◌++◌, length, Ok, refl, sym, ap, subst, ◌∙◌, append_assoc, append-nil, length-append, arith, inl, inr, Read, IsLongest, Ends, Format}
use Rattle.std.specs.Prelude.{nat_lt}
use Rattle.std.proofs.lemmas.Bool.Decides.{nat_tests}
use Rattle.std.proofs.lemmas.List.{append_cancel_left}
use Rattle.df_format.proofs.Laws.{ok_is, told}

-- of two that stand in front, the longer begins with the shorter
pub goes_on : {T : Type 0} (a b c d : List T) → a ++ b ≡ c ++ d → length d ≤ length b → (more : List T) × (c ≡ a ++ more)
goes_on [] b c d e le = (c, refl)
goes_on (x ∷ a) b [] d e le = absurd (omega (arith, le, simp length-append at (ap length e)))
goes_on {T} (x ∷ a) b (y ∷ c) d e le =
    let first : x ≡ y = cc in
    let behind : a ++ b ≡ c ++ d = cc in
    let r = goes_on a b c d behind le in
    (r.0, rw first (ap (λ (u : List T). y ∷ u) r.1))

-- where as much stands behind them, they are the same
pub same_split : {T : Type 0} (xs ys m n : List T) → xs ++ m ≡ ys ++ n → length m ≡ length n → (xs ≡ ys) × (m ≡ n)
same_split [] [] m n e l = (refl, e)
same_split [] (y ∷ ys) m n e l = absurd (omega (arith, ap length e, l, length-append ys n))
same_split (x ∷ xs) [] m n e l = absurd (omega (arith, ap length e, l, length-append xs m))
same_split {T} (x ∷ xs) (y ∷ ys) m n e l =
    let head : x ≡ y = cc in
    let tails : xs ++ m ≡ ys ++ n = cc in
    let t = same_split xs ys m n tails l in
    (ap (λ (v : T). v ∷ xs) head ∙ ap (λ (u : List T). y ∷ u) t.0, t.1)

-- What fits is read where it ends; it ends where nothing stands behind it, and where less stands there; something is read where one stands.
pub record Whole {T X : Type 0} (spell : X → List T) (Fits : X → Type 0) (End : X → List T → Type 0) (read : List T → Read T X) : Type 0 where
  pub again : (x : X) (rest : List T) → Fits x → End x rest → read (spell x ++ rest) ≡ Ok (x, rest)
  pub alone : (x : X) → Fits x → End x []
  pub less : (x : X) (front behind : List T) → Fits x → End x (front ++ behind) → End x front
  pub found : (tokens : List T) (x : X) (rest : List T) → read tokens ≡ Ok (x, rest) → (tokens ≡ spell x ++ rest) × Fits x × End x rest
  pub some : (x : X) (more : List T) → Fits x → (y : X × List T) × (read (spell x ++ more) ≡ Ok y)

module _ {T X : Type 0} {spell : X → List T} {Fits : X → Type 0} {End : X → List T → Type 0} {read : List T → Read T X} (w : Whole spell Fits End read) where
  -- what is spelled alike is the same
  same_thing : (x y : X) → Fits x → Fits y → spell x ≡ spell y → x ≡ y
  same_thing x y fx fy e =
      let first : X × List T = (x, []) in
      let both = ok_is first (y, []) (sym (w.again x [] fx (w.alone x fx)) ∙ ap (λ (u : List T). read (u ++ [])) e ∙ w.again y [] fy (w.alone y fy)) in
      ap (λ (q : X × List T). q.0) both

  -- what stands no further than where a thing ends isn't longer than it
  no_longer_one : (x other : X) (rest tail : List T) → Fits x → Fits other → End x rest → spell x ++ rest ≡ spell other ++ tail → length tail < length rest → ⊥
  no_longer_one x other rest tail fx fo ends e lt =
      let on = goes_on (spell x) rest (spell other) tail e (omega (arith, lt)) in
      let parts : spell x ++ rest ≡ spell x ++ (on.0 ++ tail) = e ∙ ap (λ (u : List T). u ++ tail) on.1 ∙ append_assoc (spell x) on.0 tail in
      let behind : rest ≡ on.0 ++ tail = append_cancel_left (spell x) rest (on.0 ++ tail) parts in
      let here = w.again x on.0 fx (w.less x on.0 tail fx (subst (End x) behind ends)) in
      let one : X × List T = (other, []) in
      let both = ok_is one (x, on.0) (sym (w.again other [] fo (w.alone other fo)) ∙ ap read (append-nil (spell other) ∙ on.1) ∙ here) in
      let none : [] ≡ on.0 = ap (λ (q : X × List T). q.1) both in
      omega (arith, lt, ap length behind, length-append on.0 tail, ap length none)

  pub is_longest : (tokens : List T) (x : X) (rest : List T) → read tokens ≡ Ok (x, rest) → IsLongest spell Fits tokens x rest
  is_longest tokens x rest e =
      let f = w.found tokens x rest e in
      record {
        parts = f.0;
        fits = f.1;
        longest = λ other tail fits is. elim (told (nat_lt (length tail) (length rest))) [
          | inr h ↦ grind (arith, nat_tests)
          | inl h ↦ absurd (no_longer_one x other rest tail f.1 fits f.2 (sym f.0 ∙ is) (grind (arith, nat_tests)))
        ];
      }

  pub longest_read : (tokens : List T) (x : X) (rest : List T) → IsLongest spell Fits tokens x rest → read tokens ≡ Ok (x, rest)
  longest_read tokens x rest l =
      let y = w.some x rest l.fits in
      let here : read tokens ≡ Ok y.0 = ap read l.parts ∙ y.1 in
      let k = is_longest tokens y.0.0 y.0.1 here in
      let equal : length y.0.1 ≡ length rest = omega (arith, k.longest x rest l.fits l.parts, l.longest y.0.0 y.0.1 k.fits k.parts) in
      let parts = same_split (spell y.0.0) (spell x) y.0.1 rest (sym k.parts ∙ l.parts) equal in
      here ∙ ap (λ (t : X). Ok (t, y.0.1)) (same_thing y.0.0 x k.fits l.fits parts.0) ∙ ap (λ (u : List T). Ok (x, u)) parts.1

-- an end is one where less stands behind it
pub ends_less : {T X : Type 0} (goes : X → T → Bool) (x : X) (front behind : List T) → Ends goes x (front ++ behind) → Ends goes x front
ends_less goes x [] behind h = tt
ends_less goes x (t ∷ front) behind h = h

-- what keeps the laws is whole, where something is read wherever one stands
pub whole_format : {T X : Type 0} {IsLow : List T → List T → Type 0} {spell : X → List T} {Fits : X → Type 0} {goes : X → T → Bool} {read : List T → Read T X}
    → Format IsLow spell Fits goes read → ((x : X) (more : List T) → Fits x → (y : X × List T) × (read (spell x ++ more) ≡ Ok y))
    → Whole spell Fits (Ends goes) read
whole_format {goes = goes} f some = record {
  again = f.again;
  alone = λ x fits. tt;
  less = λ x front behind fits ends. ends_less goes x front behind ends;
  found = λ tokens x rest e. let k = f.found tokens x rest e in (k.parts, k.fits, k.ends);
  some = some;
}
