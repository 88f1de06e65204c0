-- Walking on never lowers a count.
use Rattle.df_value_text.proofs.Names.{length-drop, ◌≡◌, ℕ, ◌+◌, ◌≤◌, max, Bool, true, false, cond, ◌||◌, eqb, List, [], ◌∷◌, length, drop, refl, sym, ap, subst, ◌∙◌, arith, ◌⊎◌, inl, inr, nat_tests, told, Plain, node_count, byte_count, depth, value_text, IsSpelled, Place, Walk, begins, nested, closed, closes, walk, walked, start, counts_of, AreWithin, NeverOver, IsCounted}
use Rattle.df_value_text.proofs.CountingLaws.{at, same, walked-append, ended, walked_value}
use Rattle.df_value_text.specs.declared.place.Place.TheVariants as place

-- what one byte adds
pub record IsStep (w v : Walk) : Type 0 where
  pub nodes : w.nodes ≤ v.nodes
  pub few : v.nodes ≤ w.nodes + 1
  pub deep : w.deep ≤ v.deep
  pub flat : v.deep ≤ max w.deep (length w.brackets + 1)

pub is_step : (w : Walk) (c : ℕ) → IsStep w (walk w c)
is_step w c = elim (told (begins w.place c)) [
  | inl e ↦ record { nodes = rw e (omega arith); few = rw e (omega arith); deep = rw e (omega arith); flat = rw e (omega arith) }
  | inr e ↦ record { nodes = rw e (omega arith); few = rw e (omega arith); deep = rw e (omega arith); flat = rw e (omega arith) }
]

-- no count of the one is below that of the other
pub record IsFurther (w v : Walk) : Type 0 where
  pub nodes : w.nodes ≤ v.nodes
  pub bytes : w.bytes ≤ v.bytes
  pub deep : w.deep ≤ v.deep

-- walking on never lowers a count
pub walked_on : (w : Walk) (cs : List ℕ) → IsFurther w (walked w cs)
walked_on w [] = record { nodes = omega arith; bytes = omega arith; deep = omega arith }
walked_on w (c ∷ cs) =
    let one = is_step w c in
    let rest = walked_on (walk w c) cs in
    record { nodes = omega (arith, one.nodes, rest.nodes); bytes = omega (arith, rest.bytes); deep = omega (arith, one.deep, rest.deep) }

-- what is within the limits was so before
pub within_before : (w v : Walk) → IsFurther w v → AreWithin v → AreWithin w
within_before w v on h = record { nodes = omega (arith, on.nodes, h.nodes); bytes = omega (arith, on.bytes, h.bytes); flat = omega (arith, on.deep, h.flat) }

-- by no front of bytes that are within the limits a count is passed
pub never_over : (bytes : List ℕ) → AreWithin (counts_of bytes) → NeverOver bytes
never_over bytes h front rest e =
    let all : counts_of bytes ≡ walked (counts_of front) rest = ap (walked start) e ∙ walked-append start front rest in
    within_before (counts_of front) (counts_of bytes) (subst (IsFurther (counts_of front)) (sym all) (walked_on (counts_of front) rest)) h

-- ---- the counts of a value

-- what is counted over a value's spelling is what the value has
pub counted_value : (p : Plain) → IsSpelled p → counts_of (value_text p) ≡ at (ended p) [] (node_count p) (byte_count p) (depth p)
counted_value p fits =
    (walked_value p fits []).run 0 0 0
    ∙ same (ended p) [] (0 + node_count p) (0 + byte_count p) (max 0 (0 + depth p)) (node_count p) (byte_count p) (depth p) (omega arith) (omega arith)
    (omega arith)

-- ---- how deep the brackets nest is counted

pub closed_low : (brackets : List Bool) (c : ℕ) → length (closed brackets c) ≤ length brackets
closed_low brackets c = elim (closes c) as (λ t. length (cond t (drop 1 brackets) brackets) ≤ length brackets) [
  | true ↦ omega (arith, length-drop 1 brackets)
  | false ↦ omega arith
]

-- a byte that opens a bracket
abbrev pub brackets_on : ℕ → Bool
brackets_on c = eqb c 91 || eqb c 40

pub record IsOpening (p : Place) (brackets : List Bool) (c : ℕ) : Type 0 where
  pub on : brackets_on c ≡ true
  pub begins : begins p c ≡ true
  pub low : length (nested p brackets c) ≤ length brackets + 1

pub nested_low : (p : Place) (brackets : List Bool) (c : ℕ) → (length (nested p brackets c) ≤ length brackets) ⊎ IsOpening p brackets c
nested_low place.Before brackets c = elim (told (eqb c 91)) [
  | inl e ↦ inr (record { on = rw e refl; begins = grind (arith, nat_tests); low = rw e (omega arith) })
  | inr e ↦ elim (told (eqb c 40)) [
    | inl k ↦ inr (record { on = rw (e, k) refl; begins = grind (arith, nat_tests); low = rw (e, k) (omega arith) })
    | inr k ↦ inl (rw (e, k) (closed_low brackets c))
  ]
]
nested_low place.Number brackets c = inl (closed_low brackets c)
nested_low place.Name brackets c = inl (closed_low brackets c)
nested_low place.Behind brackets c = inl (closed_low brackets c)
nested_low _ brackets c = inl (omega arith)

pub counted_on : (w : Walk) (c : ℕ) → IsCounted w → IsCounted (walk w c)
counted_on w c h =
    elim (nested_low w.place w.brackets c) [
      | inl low ↦ let one = is_step w c in omega (arith, low, one.deep, h)
      | inr o ↦ let low = o.low in rw (o.begins) (omega (arith, low, h))
    ]
