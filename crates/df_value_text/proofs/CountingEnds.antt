-- Behind the whole value nothing counts.
use Rattle.df_value_text.proofs.Names.{told, nat_lt, nat_tests, ◌≡◌, ℕ, ◌+◌, ◌<◌, ◌≤◌, max, Bool, true, false, cond, List, [], ◌∷◌, ◌++◌, length, take, drop, refl, sym, ap, subst, ◌∙◌, append_assoc, arith, inl, inr, append-nil, length-take-le, is_ascii_digit, goes_on, IsWithinLimits, Plain, int, node_count, byte_count, depth, value_text, IsSpelled, Place, Walk, closed, closes, walked, start, counts_of, AreWithin, IsOver, FirstOver, NeverOver, ◌↔◌, drop-append-le, take-append-drop, most_nodes, most_bytes, most_depth, AreCountsOf}
use Rattle.df_value_text.proofs.CountingLaws.{at, Adds, same, passes, walked-append, ended}
use Rattle.df_value_text.proofs.CountingFronts.{counted_value, never_over}
use Rattle.df_value_text.specs.declared.place.Place.TheVariants as place

-- the walk has these counts
pub record Counts (w : Walk) (nodes bytes deep : ℕ) : Type 0 where
  pub nodes_are : w.nodes ≡ nodes
  pub bytes_are : w.bytes ≡ bytes
  pub deep_is : w.deep ≡ deep

none_closed : (c : ℕ) → closed [] c ≡ []
none_closed c = elim (closes c) as (λ t. cond t (drop {A = Bool} 1 []) [] ≡ []) [ true ↦ refl | false ↦ refl ]

-- a byte that counts nothing
still_by : (p q : Place) (os : List Bool) (c : ℕ) (cs : List ℕ) (n b d : ℕ) → Adds p os (c ∷ []) q os 0 0 0 → Counts (walked (at q os n b d) cs) n b d
    → Counts (walked (at p os n b d) (c ∷ cs)) n b d
still_by p q os c cs n b d adds h =
    subst (λ (w : Walk). Counts (walked w cs) n b d) (sym (adds.run n b d
    ∙ same q os (n + 0) (b + 0) (max d 0) n b d (omega arith) (omega arith) (omega arith))) h

pub done_still : (cs : List ℕ) (os : List Bool) (n b d : ℕ) → Counts (walked (at place.Done os n b d) cs) n b d
done_still [] os n b d = record { nodes_are = refl; bytes_are = refl; deep_is = refl }
done_still (c ∷ cs) os n b d = still_by place.Done place.Done os c cs n b d (passes refl refl refl refl) (done_still cs os n b d)

pub ended_still : (p : Plain) (cs : List ℕ) (n b d : ℕ) → Counts (walked (at (ended p) [] n b d) cs) n b d
ended_still p [] n b d = record { nodes_are = refl; bytes_are = refl; deep_is = refl }
ended_still (int z) (c ∷ cs) n b d = elim (told (is_ascii_digit c)) [
  | inl e ↦ still_by place.Number place.Number [] c cs n b d (passes refl (rw e refl) (none_closed c) refl) (ended_still (int z) cs n b d)
  | inr e ↦ still_by place.Number place.Done [] c cs n b d (passes refl (rw e refl) (none_closed c) refl) (done_still cs [] n b d)
]
ended_still _ (c ∷ cs) n b d = still_by place.Behind place.Done [] c cs n b d (passes refl refl (none_closed c) refl) (done_still cs [] n b d)

-- a walk whose counts are within the limits
pub within_still : (w : Walk) (n b d : ℕ) → Counts w n b d → n ≤ most_nodes → b ≤ most_bytes → d ≤ most_depth → AreWithin w
within_still w n b d h nodes bytes flat = record {
  nodes = omega (arith, nodes, h.nodes_are);
  bytes = omega (arith, bytes, h.bytes_are);
  flat = omega (arith, flat, h.deep_is);
}

-- what is counted over a value's spelling is what the value has, whatever stands behind it
pub counted_behind : (p : Plain) → IsSpelled p → (rest : List ℕ) → AreCountsOf p (counts_of (value_text p ++ rest))
counted_behind p fits rest =
    let e : counts_of (value_text p ++ rest) ≡ walked (at (ended p) [] (node_count p) (byte_count p) (depth p)) rest = walked-append start (value_text p) rest
    ∙ ap (λ (w : Walk). walked w rest) (counted_value p fits) in
    let h = ended_still p rest (node_count p) (byte_count p) (depth p) in
    record {
      nodes = ap (λ (w : Walk). w.nodes) e ∙ h.nodes_are;
      bytes = ap (λ (w : Walk). w.bytes) e ∙ h.bytes_are;
      deep = ap (λ (w : Walk). w.deep) e ∙ h.deep_is;
    }

-- ---- values and the limits

pub within_counts : (p : Plain) (w : Walk) → AreCountsOf p w → IsWithinLimits p ↔ AreWithin w
within_counts p w e = (
  λ h. record { nodes = omega (arith, e.nodes, h.nodes); bytes = omega (arith, e.bytes, h.bytes); flat = omega (arith, e.deep, h.flat) },
  λ h. record { nodes = omega (arith, e.nodes, h.nodes); bytes = omega (arith, e.bytes, h.bytes); flat = omega (arith, e.deep, h.flat) },
)

pub not_both : (w : Walk) → AreWithin w → IsOver w → ⊥
not_both w h (inl over) = absurd (omega (arith, over, h.nodes))
not_both w h (inr (inl over)) = absurd (omega (arith, over, h.bytes))
not_both w h (inr (inr over)) = absurd (omega (arith, over, h.flat))

-- a value that may be frozen passes no count, whatever stands behind it
pub never_value : (p : Plain) → IsSpelled p → IsWithinLimits p → (rest : List ℕ) → NeverOver (value_text p ++ rest)
never_value p fits h rest = never_over (value_text p ++ rest) ((within_counts p (counts_of (value_text p ++ rest)) (counted_behind p fits rest)).0 h)

-- where no count is passed the value may be frozen
pub value_within : (p : Plain) → IsSpelled p → (rest : List ℕ) → NeverOver (value_text p ++ rest) → IsWithinLimits p
value_within p fits rest h =
    let alone : AreCountsOf p (counts_of (value_text p)) = subst (λ (u : List ℕ). AreCountsOf p (counts_of u)) (append-nil (value_text p))
    (counted_behind p fits []) in
    (within_counts p (counts_of (value_text p)) alone).1 (h (value_text p) rest refl)

-- where one is passed it may not
pub value_over : (p : Plain) → IsSpelled p → (rest left : List ℕ) → FirstOver (value_text p ++ rest) left → IsWithinLimits p → ⊥
value_over p fits rest left over h =
    let front : value_text p ++ rest ≡ (over.front ++ over.first ∷ []) ++ over.more = over.parts ∙ sym (append_assoc over.front (over.first ∷ []) over.more) in
    not_both (counts_of (over.front ++ over.first ∷ [])) (never_value p fits h rest (over.front ++ over.first ∷ []) over.more front) over.over

-- and its byte stands within the value
pub over_inside : (p : Plain) → IsSpelled p → (rest left : List ℕ) → FirstOver (value_text p ++ rest) left → length rest < length left
over_inside p fits rest left over =
    elim (told (nat_lt (length rest) (length left))) [
      | inl e ↦ grind (arith, nat_tests)
      | inr e ↦
          let parts : value_text p ++ rest ≡ over.front ++ left = over.parts ∙ ap (λ (u : List ℕ). over.front ++ u) (sym over.is) in
          let on = goes_on (value_text p) rest over.front left parts (grind (arith, nat_tests)) in
          let counts : AreCountsOf p (counts_of over.front) = subst (λ (u : List ℕ). AreCountsOf p (counts_of u)) (sym on.1) (counted_behind p fits on.0) in
          absurd (value_over p fits rest left over ((within_counts p (counts_of over.front) counts).1 over.within))
    ]

-- what stands in front of a place, and behind it
pub front_whole : (text : List ℕ) (stop n : ℕ) → stop ≤ length text → n ≤ stop → drop n (take stop text) ++ drop stop text ≡ drop n text
front_whole text stop n within below =
    let short : length (take stop text) ≡ stop = length-take-le stop text within in
    sym (drop-append-le n (take stop text) (drop stop text) (omega (arith, short, below))) ∙ ap (λ (u : List ℕ). drop n u) (take-append-drop stop text)
