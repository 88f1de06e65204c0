-- What is moved of a piece to a line.
use Rattle.df_live.proofs.Names.{◌≡◌, ℕ, ◌+◌, ◌-◌, ◌<◌, ◌≤◌, Bool, true, false, List, [], ◌∷◌, ◌++◌, length, take, drop, slice_range, Option, Some, None, option_map, Ok, Err, refl, sym, ap, subst, ◌∙◌, arith, append_assoc, length-drop, length-take, Consumes}
use Rattle.std.proofs.lemmas.List.{drop-drop, drop-take, take-append-drop}
use Rattle.df_live.specs.Part.{AppendsPart}
use Rattle.df_live.specs.ReadLines.{Moves, TakesPart}
use Rattle.df_live.specs.declared.part.Part.{Part}

-- one loss after the other
pub consumes-consumes : (a b c : Option (List ℕ)) (front more : List ℕ) → Consumes a b front → Consumes b c more → Consumes a c (front ++ more)
consumes-consumes None b c front more e f = tt
consumes-consumes (Some x) None c front more e f = absurd e
consumes-consumes (Some x) (Some y) None front more e f = absurd f
consumes-consumes (Some x) (Some y) (Some z) front more e f = e ∙ ap (λ (u : List ℕ). front ++ u) f ∙ sym (append_assoc front more z)

-- nothing was lost
pub consumes-none : (left : Option (List ℕ)) → Consumes left left []
consumes-none None = tt
consumes-none (Some x) = refl

-- what stands in front of a piece's rest is lost
consumes-front : (left moved rest : List ℕ) (more : Option (List ℕ)) → left ≡ moved ++ rest
    → Consumes (option_map (λ m. left ++ m) more) (option_map (λ m. rest ++ m) more) moved
consumes-front left moved rest None e = tt
consumes-front left moved rest (Some m) e = ap (λ (u : List ℕ). u ++ m) e ∙ append_assoc moved rest m

-- the rest of a range
range-drop : (xs : List ℕ) (a b n : ℕ) → n ≤ length (slice_range xs a b) → drop n (slice_range xs a b) ≡ slice_range xs (a + n) b
range-drop xs a b n within =
    let few = length-take (b - a) (drop a xs) in
    ap (λ (k : ℕ). drop n (take k (drop a xs))) (omega (arith, within, few)) ∙ drop-take n (b - (a + n)) (drop a xs)
    ∙ ap (λ (u : List ℕ). take (b - (a + n)) u) (drop-drop n a xs)

range-split : (xs : List ℕ) (a b n : ℕ) → n ≤ length (slice_range xs a b) → slice_range xs a b ≡ take n (slice_range xs a b) ++ slice_range xs (a + n) b
range-split xs a b n within =
    sym (take-append-drop n (slice_range xs a b)) ∙ ap (λ (u : List ℕ). take n (slice_range xs a b) ++ u) (range-drop xs a b n within)

-- the range in front of a line feed, the line feed, and the rest
range-feed : (xs : List ℕ) (a b n : ℕ) → n ≤ length (slice_range xs a b) → drop n (slice_range xs a b) ≡ 10 ∷ drop (n + 1) (slice_range xs a b)
    → slice_range xs a b ≡ (take n (slice_range xs a b) ++ 10 ∷ []) ++ slice_range xs (a + n + 1) b
range-feed xs a b n within feed =
    let left = slice_range xs a b in
    let some : n + 1 ≤ length left = omega (arith, ap length feed, length-drop n left) in
    let place : a + (n + 1) ≡ a + n + 1 = omega arith in
    sym (take-append-drop n left)
    ∙ ap (λ (u : List ℕ). take n left ++ u) (feed ∙ ap (λ (u : List ℕ). 10 ∷ u) (range-drop xs a b (n + 1) some ∙ ap (λ (k : ℕ). slice_range xs k b) place))
    ∙ sym (append_assoc (take n left) (10 ∷ []) (slice_range xs (a + n + 1) b))

-- a part that is followed by a line feed, or ends with the piece
pub takes_part : {E : Type 0} (xs : List ℕ) (a b place : ℕ) (more : Option (List ℕ)) (old new : List ℕ) (part : Part)
    → AppendsPart (slice_range xs a b) old new part → 0 < length (slice_range xs a b)
    → (part.ends ≡ true → place ≡ a + part.count + 1) → (part.ends ≡ false → place ≡ a + part.count)
    → TakesPart {E = E} (option_map (λ m. slice_range xs a b ++ m) more) (option_map (λ m. slice_range xs place b ++ m) more) old new (Ok part.ends)
takes_part {E = E} xs a b place more old new part p some feed none = record {
  moved = take part.count left;
  line = p.line;
  appended = p.appended;
  source = by part.ends refl;
}
  where
    left : List ℕ
    left = slice_range xs a b

    rest_at : ℕ → List ℕ
    rest_at k = slice_range xs k b

    by : (e : Bool) → part.ends ≡ e
        → Moves {E = E} (option_map (λ m. left ++ m) more) (option_map (λ m. rest_at place ++ m) more) (take part.count left) (Ok e)
    by true e =
        subst (λ (k : ℕ). Consumes (option_map (λ m. left ++ m) more) (option_map (λ m. rest_at k ++ m) more) (take part.count left ++ 10 ∷ [])) (sym (feed e))
        (consumes-front left (take part.count left ++ 10 ∷ []) (rest_at (a + part.count + 1)) more (range-feed xs a b part.count p.within (p.feed e)))
    by false e = (
      subst (λ (k : ℕ). Consumes (option_map (λ m. left ++ m) more) (option_map (λ m. rest_at k ++ m) more) (take part.count left)) (sym (none e))
          (consumes-front left (take part.count left) (rest_at (a + part.count)) more (range-split xs a b part.count p.within)),
      omega (arith, some, p.all e, length-take part.count left),
    )

-- a part of a line that is too long
pub takes_long : {E : Type 0} (e : E) (xs : List ℕ) (a b : ℕ) (more : Option (List ℕ)) (old new : List ℕ) (part : Part)
    → AppendsPart (slice_range xs a b) old new part
    → TakesPart {E = E} (option_map (λ m. slice_range xs a b ++ m) more) (option_map (λ m. slice_range xs (a + part.count) b ++ m) more) old new (Err e)
takes_long e xs a b more old new part p = record {
  moved = take part.count (slice_range xs a b);
  line = p.line;
  appended = p.appended;
  source = consumes-front (slice_range xs a b) (take part.count (slice_range xs a b)) (slice_range xs (a + part.count) b) more
      (range-split xs a b part.count p.within);
}
