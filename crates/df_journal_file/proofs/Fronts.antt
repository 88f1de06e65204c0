-- Texts that begin alike, what their first bytes tell, and where entries end.
use Rattle.df_journal_file.proofs.Names.{EndsFile, IsCallFront, IsPartFront, IsShownFront, IsValueFront, more_first, unit_first, word, unit_text, begins_pair, Label, EndsLine, IsLine, Avoids-text, UnitName, label_text, begins_with, begins_digit, Bool, List, [], ap, arith, codes, decimal, eqb, false, inl, inr, length, length-append, refl, subst, sym, true, ℕ, ◌&&◌, ◌++◌, ◌<◌, ◌∙◌, ◌∷◌, ◌≡◌, nat_tests, All-cons, All-nil, is_ascii_digit}
use Rattle.df_format.proofs.Laws.{told}
use Rattle.df_lines.proofs.Rows.{Like, line_same}
use Rattle.std.proofs.lemmas.Bool.{eqb-true}

-- a test has one result
pub one_result : {A : Type 0} {b : Bool} → b ≡ true → b ≡ false → A
one_result is isn't = absurd (let both : true ≡ false = sym is ∙ isn't in cc)

-- a test that fails decides
pub and_false : (b : Bool) → (b && false) ≡ false
and_false true = refl
and_false false = refl

-- ---- the first bytes

-- a digit is another byte
digit_other : (c m : ℕ) → is_ascii_digit c ≡ true → is_ascii_digit m ≡ false → eqb c m ≡ false
digit_other c m digit none = grind (arith, nat_tests)

-- what begins with a digit begins with no other byte or mark
pub digit_begins : (m : ℕ) (u : List ℕ) → begins_digit u ≡ true → is_ascii_digit m ≡ false → (begins_with m u ≡ false) × (begins_pair m 32 u ≡ false)
digit_begins m [] digit none = absurd cc
digit_begins m (c ∷ cs) digit none = let e = digit_other c m digit none in (e, rw e refl)

-- a mark with a space begins with the mark
pub pair_with : (m : ℕ) (u : List ℕ) → begins_pair m 32 u ≡ true → begins_with m u ≡ true
pair_with m [] h = absurd cc
pair_with m (c ∷ cs) h = elim (eqb c m) as (λ b. (b && begins_with 32 cs) ≡ true → b ≡ true) [ true ↦ λ h. refl | false ↦ λ h. h ] h

-- ---- in front of a value

-- the words of a call that adds a part, up to its value
abbrev pub add_front : UnitName → ℕ → Label × List ℕ → List ℕ
add_front actor h n = unit_text actor ++ (word (codes "add") ++ (word (decimal h) ++ (word (label_text n.0) ++ word n.1)))

-- it begins with a digit
call_first : (front more : List ℕ) → IsCallFront front → begins_digit (front ++ more) ≡ true
call_first front more c =
    subst (λ (f : List ℕ). begins_digit (f ++ more) ≡ true) (sym c.6)
    (more_first (add_front c.0 c.1 c.2) more (more_first (unit_text c.0) _ (unit_first c.0 c.3)))

-- one or the other
abbrev When : Bool → Type 0 → Type 0 → Type 0
When true A B = A
When false A B = B

-- what stands in front of a value and begins with this byte
abbrev pub IsFrontOf : ℕ → List ℕ → Type 0
IsFrontOf m front = When (is_ascii_digit m) (IsCallFront front)
    (When (eqb 58 m) (IsShownFront front) (When (eqb 43 m) (IsPartFront (codes "+") front) (When (eqb 46 m) (IsPartFront (codes ".") front) ⊥)))

-- the first byte tells it
marked_front : (m k : ℕ) (front text more : List ℕ) → front ≡ text → begins_with m (front ++ more) ≡ true → begins_with m (text ++ more) ≡ eqb k m
    → IsFrontOf k front → IsFrontOf m front
marked_front m k front text more is b byte w =
    subst (λ (n : ℕ). IsFrontOf n front) (eqb-true k m (sym byte ∙ ap (λ (f : List ℕ). begins_with m (f ++ more)) (sym is) ∙ b)) w

pub is_front : (m : ℕ) (front more : List ℕ) → IsValueFront front → begins_with m (front ++ more) ≡ true → IsFrontOf m front
is_front m front more (inl c) b = elim (told (is_ascii_digit m)) [
  | inl digit ↦ rw digit c
  | inr none ↦ one_result b (digit_begins m (front ++ more) (call_first front more c) none).0
]
is_front m front more (inr (inl s)) b = marked_front m 58 front _ more s.2 b refl s
is_front m front more (inr (inr (inl p))) b = marked_front m 43 front _ more p.2 b refl p
is_front m front more (inr (inr (inr p))) b = marked_front m 46 front _ more p.2 b refl p

-- and a digit a call
pub is_call_front : (front more : List ℕ) → IsValueFront front → begins_digit (front ++ more) ≡ true → IsCallFront front
is_call_front front more (inl c) b = c
is_call_front front more (inr (inl s)) b = one_result b (ap (λ (f : List ℕ). begins_digit (f ++ more)) s.2)
is_call_front front more (inr (inr (inl p))) b = one_result b (ap (λ (f : List ℕ). begins_digit (f ++ more)) p.2)
is_call_front front more (inr (inr (inr p))) b = one_result b (ap (λ (f : List ℕ). begins_digit (f ++ more)) p.2)

-- it has two bytes
pub front_long : (front : List ℕ) → IsValueFront front → 1 < length front
front_long front (inl c) =
    omega (arith, ap length c.6, length-append (unit_text c.0) (word (codes "add") ++ (word (decimal c.1) ++ (word (label_text c.2.0) ++ word c.2.1))))
front_long front (inr (inl s)) = omega (arith, ap length s.2)
front_long front (inr (inr (inl p))) = omega (arith, ap length p.2)
front_long front (inr (inr (inr p))) = omega (arith, ap length p.2)

-- ---- texts that begin alike

-- the same byte stands in front, and the same mark with a space behind it
abbrev Alike : List ℕ → List ℕ → Type 0
Alike s t = (m : ℕ) → (begins_with m s ≡ begins_with m t) × (eqb 10 m ≡ false → begins_pair m 32 s ≡ begins_pair m 32 t)

alike_line : (w x y : List ℕ) → Alike (w ++ 10 ∷ x) (w ++ 10 ∷ y)
alike_line [] x y = λ m. (refl, λ h. rw h refl)
alike_line (a ∷ []) x y = λ m. (refl, λ h. refl)
alike_line (a ∷ b ∷ w) x y = λ m. (refl, λ h. refl)

alike_long : (w x y : List ℕ) → 1 < length w → Alike (w ++ x) (w ++ y)
alike_long [] x y h = absurd (omega arith)
alike_long (a ∷ []) x y h = absurd (omega arith)
alike_long (a ∷ b ∷ w) x y h = λ m. (refl, λ h. refl)

-- in all three cases
pub alike : (s t : List ℕ) → Like IsValueFront s t → Alike s t
alike s t (inl e) = λ m. (ap (begins_with m) e, λ _. ap (begins_pair m 32) e)
alike s t (inr (inl f)) = rw (f.4, f.5) (alike_line f.0 f.1 f.2)
alike s t (inr (inr f)) = rw (f.4, f.5) (alike_long f.0 f.1 f.2 (front_long f.0 f.3))

-- the line at the head of a text
pub record FirstLine (t : List ℕ) : Type 0 where
  pub bad : List ℕ
  pub behind : List ℕ
  pub parts : t ≡ bad ++ behind
  pub line : IsLine bad
  pub end : EndsLine behind

-- each text has one
pub first_line : (t : List ℕ) → FirstLine t
first_line [] = record { bad = []; behind = []; parts = refl; line = All-nil (λ b. eqb b 10 ≡ false); end = tt }
first_line (b ∷ t) =
    elim (told (eqb b 10)) [
      | inl h ↦ record { bad = []; behind = b ∷ t; parts = refl; line = All-nil (λ b. eqb b 10 ≡ false); end = eqb-true b 10 h }
      | inr h ↦
          let f = first_line t in
          record {
            bad = b ∷ f.bad;
            behind = f.behind;
            parts = ap (λ (u : List ℕ). b ∷ u) f.parts;
            line = All-cons (λ b. eqb b 10 ≡ false) b f.bad h f.line;
            end = f.end;
          }
    ]

-- the line that stands there tells whether it is one
pub line_ends : (t line rest : List ℕ) → IsLine line → t ≡ line ++ 10 ∷ rest → (line ≡ codes "---" → EndsFile t) × (EndsFile t → line ≡ codes "---")
line_ends t line rest is e = (λ same. inr (rest, e ∙ ap (λ (l : List ℕ). l ++ 10 ∷ rest) same), λ ends. cut ends)
  where
    cut : EndsFile t → line ≡ codes "---"
    cut (inl none) = absurd (let n = length-append line (10 ∷ rest) in omega (arith, n, ap length (sym e ∙ none)))
    cut (inr more) = (line_same line (codes "---") (10 ∷ rest) (10 ∷ more.0) is (Avoids-text (codes "---") refl) refl refl (sym e ∙ more.1)).0

-- what begins like an end is one
pub same_end : (u t : List ℕ) → Like IsValueFront u t → EndsFile u → EndsFile t
same_end u t (inl e) ends = subst EndsFile e ends
same_end u t (inr (inl f)) ends = (line_ends t f.0 f.2 f.3 f.5).0 ((line_ends u f.0 f.1 f.3 f.4).1 ends)
same_end u t (inr (inr f)) (inl none) = absurd (let n = length-append f.0 f.1 in omega (arith, n, front_long f.0 f.3, ap length (sym f.4 ∙ none)))
same_end u t (inr (inr f)) (inr more) = absurd (is_front 45 f.0 f.1 f.3 (ap (begins_with 45) (sym f.4 ∙ more.1)))
