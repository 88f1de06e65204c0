-- Reading from left to right. The tokens of a literal are its bytes, those of a file its lines.
use Rattle.std.specs.Prelude.{ℕ, zero, suc, Bool, false, List, [], ◌∷◌, ◌++◌, length, Option, Some, None, Result, Ok, Err, ◌==◌, if◌then◌else◌}

-- why reading stopped, with the tokens from there on
pub data Stop (T : Type 0) : Type 0 where
  -- with the first of them nothing goes on; where there is none, one is lacking
  Bad : List T → Stop T
  -- at the first of them stands what isn't above what stands before it
  Low : List T → Stop T

-- what stands in front, and the tokens behind it
abbrev pub Read : Type 0 → Type 0 → Type 0
Read T X = Result (X × List T) (Stop T)

-- what is read next, unless reading stopped
infixl 10 ◌>>=◌
abbrev pub ◌>>=◌ : {T A B : Type 0} → Result A (Stop T) → (A → Result B (Stop T)) →
    Result B (Stop T)
(Ok x) >>= f = f x
(Err s) >>= f = Err s

-- one thing and then another
abbrev pub then_at : {T X Y : Type 0} → (List T → Read T X) → (List T → Read T Y) → List T →
    Read T (X × Y)
then_at first second tokens = first tokens >>= λ x. second x.1 >>= λ y. Ok ((x.0, y.0), y.1)

-- something made of what is read
abbrev pub as_at : {T X Y : Type 0} → (X → Y) → (List T → Read T X) → List T → Read T Y
as_at make read tokens = read tokens >>= λ x. Ok (make x.0, x.1)

-- something or nothing, as the first token tells
abbrev pub maybe_at : {T X : Type 0} → (T → Bool) → (List T → Read T X) → List T → Read T (Option X)
maybe_at begins read [] = Ok (None, [])
maybe_at begins read (t ∷ ts) = if begins t then (read (t ∷ ts) >>= λ x. Ok (Some x.0, x.1))
    else Ok (None, t ∷ ts)

-- one of two kinds, as the first token tells
abbrev pub either_at : {T X : Type 0} → (T → Bool) → (List T → Read T X) → (List T → Read T X) →
    List T → Read T X
either_at begins read other [] = Err (Bad [])
either_at begins read other (t ∷ ts) = if begins t then read (t ∷ ts) else other (t ∷ ts)

-- one token, decoded as a whole
abbrev pub decoded : {T X : Type 0} → Option X → T → List T → Read T X
decoded None t ts = Err (Bad (t ∷ ts))
decoded (Some x) t ts = Ok (x, ts)

abbrev pub one_at : {T X : Type 0} → (T → Option X) → List T → Read T X
one_at decode [] = Err (Bad [])
one_at decode (t ∷ ts) = decoded (decode t) t ts

-- whether the first of these tokens passes the test
abbrev pub starts : {T : Type 0} → (T → Bool) → List T → Bool
starts test [] = false
starts test (t ∷ ts) = test t

-- just these bytes
abbrev pub text_at : List ℕ → List ℕ → Read ℕ (List ℕ)
text_at [] bytes = Ok ([], bytes)
text_at (w ∷ ws) [] = Err (Bad [])
text_at (w ∷ ws) (c ∷ cs) = if c == w then (text_at ws cs >>= λ x. Ok (w ∷ x.0, x.1))
    else Err (Bad (c ∷ cs))

-- something behind these bytes
abbrev pub behind_at : {X : Type 0} → List ℕ → (List ℕ → Read ℕ X) → List ℕ → Read ℕ X
behind_at ws read bytes = text_at ws bytes >>= λ h. read h.1

-- something with these bytes behind it
abbrev pub closed_at : {X : Type 0} → List ℕ → (List ℕ → Read ℕ X) → List ℕ → Read ℕ X
closed_at ws read bytes = read bytes >>= λ x. text_at ws x.1 >>= λ h. Ok (x.0, h.1)

-- further items; leads tells of an item, a token and the tokens behind it whether another item
-- stands
-- there, and next reads what may stand behind an item
abbrev pub more_at : {T X : Type 0} → (X → T → List T → Bool) → (X → List T → Read T X) → ℕ → X →
    List T → Read T (List X)
more_at leads next n prev [] = Ok ([], [])
more_at leads next zero prev (t ∷ ts) = Ok ([], t ∷ ts)
more_at leads next (suc n) prev (t ∷ ts) =
    if leads prev t ts
    then (next prev ts >>= λ x. more_at leads next n x.0 x.1 >>= λ xs. Ok (x.0 ∷ xs.0, xs.1))
    else Ok ([], t ∷ ts)

abbrev pub more_of : {T X : Type 0} → (X → T → List T → Bool) → (X → List T → Read T X) → X →
    List T → Read T (List X)
more_of leads next prev tokens = more_at leads next (length tokens) prev tokens

-- at least one item
abbrev pub items_at : {T X : Type 0} → (X → T → List T → Bool) → (List T → Read T X) →
    (X → List T → Read T X) → List T → Read T (X × List X)
items_at leads first next tokens =
    first tokens >>= λ x. more_of leads next x.0 x.1 >>= λ xs. Ok ((x.0, xs.0), xs.1)

-- what was read before, and what is still to be read
abbrev pub with_front : {T X : Type 0} → List X → Read T (List X) → Read T (List X)
with_front front read = read >>= λ xs. Ok (front ++ xs.0, xs.1)

-- as many as one of them stands in front, and at most so many
abbrev pub while_at : {T X : Type 0} → (List T → Bool) → (List T → Read T X) → ℕ → List T →
    Read T (List X)
while_at stands read zero tokens = Ok ([], tokens)
while_at stands read (suc most) tokens =
    if stands tokens
    then (read tokens >>= λ x. while_at stands read most x.1 >>= λ xs. Ok (x.0 ∷ xs.0, xs.1))
    else Ok ([], tokens)

-- as many as one of them stands in front
abbrev pub all_at : {T X : Type 0} → (List T → Bool) → (List T → Read T X) → List T →
    Read T (List X)
all_at stands read tokens = while_at stands read (length tokens) tokens
