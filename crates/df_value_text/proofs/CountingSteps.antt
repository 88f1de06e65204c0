-- The search for the first byte by which a count is passed, and texts that pass none.
use Rattle.df_value_text.proofs.Names.{◌≡◌, ℕ, suc, ◌+◌, ◌*◌, ◌<◌, ◌≤◌, max, Bool, true, false, cond, eqb, List, [], ◌∷◌, length, refl, arith, inl, inr, nat_tests, Place, Walk, character, nested, start, walk, walked, weight, NeverOver, is_hex, is_name_byte, ◌++◌, drop, get_or, sym, ap, subst, ◌∙◌, append_assoc, counts_of, AreWithin, drop_all, IsOver, FirstOver, open_count}
use Rattle.df_value_text.proofs.CountingFronts.{is_step, brackets_on, nested_low, never_over}
use Rattle.df_value_text.proofs.CountingEnds.{within_still, Counts, done_still}
use Rattle.df_value_text.proofs.CountingLaws.{at, walked-append}
use Rattle.df_value_text.proofs.Loops.{first_of}
use Rattle.df_value_text.specs.declared.place.Place.TheVariants as place

-- ---- a short text that opens few brackets

character_few : (c : ℕ) → character c ≤ 4
character_few c = grind (arith, nat_tests)

either_few : (b : Bool) (x y : ℕ) → x ≤ 4 → y ≤ 4 → cond b x y ≤ 4
either_few true x y h k = h
either_few false x y h k = k

weight_few : (p : Place) (c : ℕ) → weight p c ≤ 4
weight_few place.Words c = either_few (eqb c 34) 0 (character c) (omega arith) (character_few c)
weight_few place.Bytes c = either_few (is_hex c) 1 0 (omega arith) (omega arith)
weight_few place.Name c = either_few (is_name_byte c) 1 0 (omega arith) (omega arith)
weight_few _ c = omega arith

opens_more : (c : ℕ) (cs : List ℕ) → open_count cs ≤ open_count (c ∷ cs)
opens_more c cs = elim (brackets_on c) as (λ b. open_count cs ≤ cond b (suc (open_count cs)) (open_count cs)) [ true ↦ omega arith | false ↦ omega arith ]

pub opens_at_most : (bytes : List ℕ) → open_count bytes ≤ length bytes
opens_at_most [] = omega arith
opens_at_most (c ∷ cs) =
    let rest = opens_at_most cs in
    elim (brackets_on c) as (λ b. cond b (suc (open_count cs)) (open_count cs) ≤ suc (length cs)) [ true ↦ omega (arith, rest) | false ↦ omega (arith, rest) ]

opens_one : (c : ℕ) (cs : List ℕ) → brackets_on c ≡ true → open_count (c ∷ cs) ≡ suc (open_count cs)
opens_one c cs h = rw h refl

-- the brackets behind a byte, by those that it opens
nested_few : (p : Place) (brackets : List Bool) (c : ℕ) (cs : List ℕ) → length (nested p brackets c) + open_count cs ≤ length brackets + open_count (c ∷ cs)
nested_few p brackets c cs = elim (nested_low p brackets c) [
  | inl low ↦ omega (arith, low, opens_more c cs)
  | inr o ↦ omega (arith, o.low, opens_one c cs o.on)
]

-- what a walk over these bytes counts at most
pub record IsBounded (w : Walk) (cs : List ℕ) : Type 0 where
  pub nodes : (walked w cs).nodes ≤ w.nodes + length cs
  pub bytes : (walked w cs).bytes ≤ w.bytes + 4 * length cs
  pub deep : (walked w cs).deep ≤ max w.deep (length w.brackets + open_count cs + 1)

pub walked_few : (w : Walk) (cs : List ℕ) → IsBounded w cs
walked_few w [] = record { nodes = omega arith; bytes = omega arith; deep = omega arith }
walked_few w (c ∷ cs) =
    let one = is_step w c in
    let rest = walked_few (walk w c) cs in
    let few = weight_few w.place c in
    let inner = nested_few w.place w.brackets c cs in
    record {
      nodes = omega (arith, one.few, rest.nodes);
      bytes = omega (arith, few, rest.bytes);
      deep = omega (arith, one.flat, rest.deep, inner, opens_more c cs);
    }

-- a short text that opens few brackets passes no count
pub never_small : (bytes : List ℕ) → length bytes ≤ 4096 → open_count bytes < 32 → NeverOver bytes
never_small bytes short few =
    let all = walked_few start bytes in
    never_over bytes (record { nodes = omega (arith, all.nodes); bytes = omega (arith, all.bytes); flat = omega (arith, all.deep) })

-- ---- the search, step by step

-- the walk has come from the one place to the other
pub record Reached (bytes : List ℕ) (at here : ℕ) (w : Walk) : Type 0 where
  pub front : List ℕ
  pub parts : drop at bytes ≡ front ++ drop here bytes
  pub is : counts_of front ≡ w

counts_more : (front : List ℕ) (c : ℕ) (w : Walk) → counts_of front ≡ w → counts_of (front ++ c ∷ []) ≡ walk w c
counts_more front c w e = walked-append start front (c ∷ []) ∙ ap (λ (w : Walk). walk w c) e

pub reached_on : (bytes : List ℕ) (at here : ℕ) (w v : Walk) → here < length bytes → v ≡ walk w (get_or bytes here 0) → Reached bytes at here w
    → Reached bytes at (here + 1) v
reached_on bytes at here w v lt e r = record {
  front = r.front ++ get_or bytes here 0 ∷ [];
  parts = r.parts ∙ ap (λ (u : List ℕ). r.front ++ u) (first_of bytes here lt) ∙ sym (append_assoc r.front (get_or bytes here 0 ∷ []) (drop (here + 1) bytes));
  is = counts_more r.front (get_or bytes here 0) w r.is ∙ sym e;
}

-- the byte here is the first by which a count is passed
pub reached_over : (bytes : List ℕ) (at here : ℕ) (w v : Walk) → here < length bytes → v ≡ walk w (get_or bytes here 0) → AreWithin w → IsOver v
    → Reached bytes at here w → FirstOver (drop at bytes) (drop here bytes)
reached_over bytes at here w v lt e within over r = record {
  front = r.front;
  first = get_or bytes here 0;
  more = drop (here + 1) bytes;
  parts = r.parts ∙ ap (λ (u : List ℕ). r.front ++ u) (first_of bytes here lt);
  is = first_of bytes here lt;
  within = subst AreWithin (sym r.is) within;
  over = subst IsOver (e ∙ sym (counts_more r.front (get_or bytes here 0) w r.is)) over;
}

never_reached : (bytes : List ℕ) (at here : ℕ) (w : Walk) → Reached bytes at here w → AreWithin (walked w (drop here bytes)) → NeverOver (drop at bytes)
never_reached bytes at here w r h =
    let all : counts_of (drop at bytes) ≡ walked w (drop here bytes) = ap counts_of r.parts ∙ walked-append start r.front (drop here bytes)
    ∙ ap (λ (w : Walk). walked w (drop here bytes)) r.is in
    never_over (drop at bytes) (subst AreWithin (sym all) h)

-- the bytes have ended
pub never_ended : (bytes : List ℕ) (at here : ℕ) (w : Walk) → length bytes ≤ here → AreWithin w → Reached bytes at here w → NeverOver (drop at bytes)
never_ended bytes at here w le within r = never_reached bytes at here w r (subst (λ (u : List ℕ). AreWithin (walked w u)) (sym (drop_all here bytes le)) within)

-- the value has ended
pub never_done : (bytes : List ℕ) (at here : ℕ) (w : Walk) → w.place ≡ place.Done → AreWithin w → Reached bytes at here w → NeverOver (drop at bytes)
never_done bytes begin here w e within r =
    let rest : List ℕ = drop here bytes in
    let still = subst (λ (p : Place). Counts (walked (at p w.brackets w.nodes w.bytes w.deep) rest) w.nodes w.bytes w.deep) (sym e)
    (done_still rest w.brackets w.nodes w.bytes w.deep) in
    never_reached bytes begin here w r (within_still (walked w rest) w.nodes w.bytes w.deep still within.nodes within.bytes within.flat)
