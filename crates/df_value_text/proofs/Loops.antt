-- Items read one behind the other, as the code reads them.
use Rattle.df_value_text.proofs.Names.{◌≡◌, ℕ, ◌+◌, ◌<◌, ◌-◌, ◌≤◌, length-append, take-append_seam, Bool, true, false, cond, List, [], ◌∷◌, ◌++◌, length, get_or, take, drop, Ok, Err, refl, sym, ap, ◌∙◌, arith, add-one, drop-cons, Stop, Bad, Low, Read, ◌>>=◌, as_at, either_at, behind_at, more_of, items_at, text_at, with_front, onto, regroup, take_more, append-nil, Shrinks, item_read, item_failed, no_more, Fails, begins_with, listed, Fault, ◌==◌, length-drop, drop_more}
use Rattle.df_value_text.specs.declared.refused.Fault.TheVariants as fault

-- a fault is one of another reader that stops there too
pub fails_by : {X Y : Type 0} (e : Fault) (bytes : List ℕ) (r : Read ℕ X) (s : Read ℕ Y) → ((stop : Stop ℕ) → r ≡ Err stop → s ≡ Err stop) → Fails bytes e r
    → Fails bytes e s
fails_by fault.NoMemory bytes r s f h = tt
fails_by (fault.Bad place) bytes r s f h = (h.0, f (Bad (drop place bytes)) h.1)
fails_by (fault.Low place) bytes r s f h = (h.0, f (Low (drop place bytes)) h.1)

-- the first byte, and those behind it
pub first_of : (bytes : List ℕ) (place : ℕ) → place < length bytes → drop place bytes ≡ get_or bytes place 0 ∷ drop (place + 1) bytes
first_of bytes place lt = rw (add-one, drop-cons bytes place 0 lt) refl

pub drop_first : (bytes : List ℕ) (place c : ℕ) (cs : List ℕ) → drop place bytes ≡ c ∷ cs → (place < length bytes) × (cs ≡ drop (place + 1) bytes)
drop_first bytes place c cs e =
    let within : place < length bytes = omega (arith, ap length e, length-drop place bytes) in
    let both : get_or bytes place 0 ∷ drop (place + 1) bytes ≡ c ∷ cs = sym (first_of bytes place within) ∙ e in
    (within, sym (let tails : drop (place + 1) bytes ≡ cs = cc in tails))

-- what is spelled in front of a place stands between it and where it begins
pub between_places : (bytes text : List ℕ) (at place : ℕ) → at ≤ length bytes → place ≤ length bytes → drop at bytes ≡ text ++ drop place bytes
    → (at ≤ place) × (take (place - at) (drop at bytes) ≡ text)
between_places bytes text at place start end parts =
    let whole = ap length parts ∙ length-append text (drop place bytes) in
    let size : place - at ≡ length text = omega (arith, length-drop at bytes, length-drop place bytes, whole) in (
      omega (arith, length-drop at bytes, length-drop place bytes, whole, start, end),
      ap (λ (k : ℕ). take k (drop at bytes)) size ∙ ap (take (length text)) parts ∙ take-append_seam text (drop place bytes),
    )

-- what stands behind this byte
pub behind_it : (bytes : List ℕ) (place byte : ℕ) → begins_with byte (drop place bytes) ≡ true
    → (c : ℕ) × (drop place bytes ≡ c ∷ drop (place + 1) bytes) × (c == byte ≡ true)
behind_it bytes place byte h = by (drop place bytes) refl h
  where
    by : (d : List ℕ) → drop place bytes ≡ d → begins_with byte d ≡ true → (c : ℕ) × (drop place bytes ≡ c ∷ drop (place + 1) bytes) × (c == byte ≡ true)
    by [] e h = absurd cc
    by (c ∷ cs) e h = (c, e ∙ ap (λ (u : List ℕ). c ∷ u) (drop_first bytes place c cs e).1, h)

-- where the byte stands that tells the kind, what stands behind it is read
pub either_behind : {X : Type 0} (byte : ℕ) (read other : List ℕ → Read ℕ X) (bytes : List ℕ) (at : ℕ) → begins_with byte (drop at bytes) ≡ true
    → either_at (λ c. c == byte) (behind_at (byte ∷ []) read) other (drop at bytes) ≡ read (drop (at + 1) bytes)
either_behind byte read other bytes at h =
    let b = behind_it bytes at byte h in
    ap (either_at (λ c. c == byte) (behind_at (byte ∷ []) read) other) b.1 ∙ rw (b.2) refl

-- ---- behind what was read before

-- one more is read
pub front_on : {X : Type 0} (front more : List X) (x : X) (r s : Read ℕ (List X)) (total : Read ℕ (List X)) → r ≡ (s >>= onto x) → more ≡ front ++ x ∷ []
    → with_front front r ≡ total → with_front more s ≡ total
front_on {X} front more x r s total step is so_far =
    ap (λ (u : List X). with_front u s) is ∙ sym (regroup front x s) ∙ ap (with_front front) (sym step) ∙ so_far

-- none stands there
pub front_done : {X : Type 0} (front : List X) (r : Read ℕ (List X)) (rest : List ℕ) (total : Read ℕ (List X)) → r ≡ Ok ([], rest)
    → with_front front r ≡ total → total ≡ Ok (front, rest)
front_done {X} front r rest total e so_far = sym so_far ∙ ap (with_front front) e ∙ ap (λ (u : List X). Ok (u, rest)) (append-nil front)

-- ---- items

-- what leads on to another item
pub record LedTo {X : Type 0} (leads : X → ℕ → List ℕ → Bool) (prev : X) (text : List ℕ) (place : ℕ) : Type 0 where
  pub first : ℕ
  pub is : drop place text ≡ first ∷ drop (place + 1) text
  pub leads_on : leads prev first (drop (place + 1) text) ≡ true

-- a comma does, and no other byte
pub comma_led : {X : Type 0} (prev : X) (text : List ℕ) (place : ℕ) → begins_with 44 (drop place text) ≡ true → LedTo (λ prev c cs. c == 44) prev text place
comma_led prev text place h = let b = behind_it text place 44 h in record { first = b.0; is = b.1; leads_on = b.2 }

pub no_comma : (text : List ℕ) → begins_with 44 text ≡ false → (c : ℕ) (cs : List ℕ) → text ≡ c ∷ cs → (c == 44) ≡ false
no_comma text h c cs is = ap (begins_with 44) (sym is) ∙ h

-- what is left behind these items is read as all was to be
pub record Left {X : Type 0} (leads : X → ℕ → List ℕ → Bool) (next : X → List ℕ → Read ℕ X) (total : Read ℕ (List X)) (all : List X) (prev : X) (text : List ℕ)
    (place : ℕ) : Type 0 where
  pub so_far : with_front all (more_of leads next prev (drop place text)) ≡ total

one_front : {X : Type 0} (x : X) (r : Read ℕ (List X))
    → with_front (x ∷ []) r ≡ ((r >>= λ (xs : List X × List ℕ). Ok ((x, xs.0), xs.1)) >>= λ (y : (X × List X) × List ℕ). Ok (listed y.0, y.1))
one_front x (Ok xs) = refl
one_front x (Err s) = refl

-- the first is read
pub begun : {X : Type 0} (leads : X → ℕ → List ℕ → Bool) (first : List ℕ → Read ℕ X) (next : X → List ℕ → Read ℕ X) (text : List ℕ) (at start : ℕ) (x : X)
    (all : List X) → first (drop at text) ≡ Ok (x, drop start text) → all ≡ x ∷ []
    → Left leads next (as_at listed (items_at leads first next) (drop at text)) all x text start
begun {X} leads first next text at start x all e is = record {
  so_far = ap (λ (xs : List X). with_front xs (more_of leads next x (drop start text))) is ∙ rw e (one_front x (more_of leads next x (drop start text)));
}

module _ {X : Type 0} {leads : X → ℕ → List ℕ → Bool} {next : X → List ℕ → Read ℕ X} {total : Read ℕ (List X)} {all : List X} {prev : X} {text : List ℕ}
    {place : ℕ} (left : Left leads next total all prev text place) where
  -- another is read
  pub left_on : ((x : X) → Shrinks (next x)) → LedTo leads prev text place → (after : ℕ) (x : X) (more : List X)
      → next prev (drop (place + 1) text) ≡ Ok (x, drop after text) → more ≡ all ++ x ∷ [] → Left leads next total more x text after
  left_on shrinks l after x more e is = record {
    so_far = ap (λ (xs : List X). with_front xs (more_of leads next x (drop after text))) is
        ∙ item_read leads next shrinks all prev x (drop place text) l.first (drop (place + 1) text) (drop after text) total l.is l.leads_on e left.so_far;
  }

  -- another is not
  pub left_stops : ((x : X) → Shrinks (next x)) → LedTo leads prev text place → (stop : Stop ℕ) → next prev (drop (place + 1) text) ≡ Err stop
      → total ≡ Err stop
  left_stops shrinks l stop e = item_failed leads next shrinks all prev (drop place text) l.first (drop (place + 1) text) stop total l.is l.leads_on e
      left.so_far

  -- nothing leads on
  pub left_done : ((c : ℕ) (cs : List ℕ) → drop place text ≡ c ∷ cs → leads prev c cs ≡ false) → total ≡ Ok (all, drop place text)
  left_done over = no_more leads next all prev (drop place text) total over left.so_far

-- ---- a text, byte by byte

pub text_on : (bytes text : List ℕ) (i place b d : ℕ) (total : Read ℕ (List ℕ)) → i < length text → b ≡ get_or text i d
    → begins_with b (drop place bytes) ≡ true → with_front (take i text) (text_at (drop i text) (drop place bytes)) ≡ total
    → (place < length bytes) × (with_front (take (i + 1) text) (text_at (drop (i + 1) text) (drop (place + 1) bytes)) ≡ total)
text_on bytes text i place b d total lt is h e =
    let t = behind_it bytes place b h in
    let rest : List ℕ = drop (place + 1) bytes in
    let ws : drop i text ≡ b ∷ drop (i + 1) text = drop_more text i d lt ∙ ap (λ (v : ℕ). v ∷ drop (i + 1) text) (sym is) in
    let taken : take (i + 1) text ≡ take i text ++ b ∷ [] = take_more text i d lt ∙ ap (λ (v : ℕ). take i text ++ v ∷ []) (sym is) in
    let step : text_at (drop i text) (drop place bytes) ≡ (text_at (drop (i + 1) text) rest >>= onto b) = ap (text_at (drop i text)) t.1
    ∙ ap (λ (u : List ℕ). text_at u (t.0 ∷ rest)) ws ∙ ap (λ x. cond x (text_at (drop (i + 1) text) rest >>= onto b) (Err (Bad (t.0 ∷ rest)))) t.2 in
    let on = front_on (take i text) (take (i + 1) text) b (text_at (drop i text) (drop place bytes)) (text_at (drop (i + 1) text) rest) total step taken e in
    ((drop_first bytes place t.0 rest t.1).0, on)
