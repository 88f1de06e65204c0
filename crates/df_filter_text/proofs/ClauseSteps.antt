-- The loop that reads clauses, step by step.
use Rattle.df_filter_text.proofs.Names.{◌≡◌, ℕ, ◌+◌, ◌-◌, ◌<◌, ◌≤◌, true, false, List, [], ◌∷◌, ◌++◌, length, drop, map, map-append, Ok, Err, refl, sym, ap, ◌∙◌, ◌⊎◌, inl, inr, arith, nat_tests, Read, Stop, ◌>>=◌, as_at, listed, length_push, Clause, begins_with, clause_at, Placed, placed_at, leads_clause, next_clause_at, placed_clauses_at, clauses_of, filter_at}
use Rattle.df_value_text.proofs.Loops.{Left, LedTo, begun, behind_it, left_done, left_on, left_stops}
use Rattle.df_filter_text.proofs.FilterLaws.{clause, placed_parts}

-- what is left is read as all was to be
pub record SoFar (bytes : List ℕ) (at place : ℕ) (clauses : List Clause) : Type 0 where
  pub all : List Placed
  pub last : Placed
  pub are : clauses ≡ map clause all
  pub room : last.1 + length clauses ≡ 4
  pub left : Left leads_clause next_clause_at (as_at listed placed_clauses_at (drop at bytes)) all last bytes place

pub clauses_begun : (bytes : List ℕ) (at start : ℕ) (first : Clause) (clauses : List Clause) → clause_at (drop at bytes) ≡ Ok (first, drop start bytes)
    → clauses ≡ first ∷ [] → SoFar bytes at start clauses
clauses_begun bytes at start first clauses e is = record {
  all = (first, 3) ∷ [];
  last = (first, 3);
  are = is;
  room = omega (arith, ap length is);
  left = begun leads_clause (placed_at 3) next_clause_at bytes at start (first, 3) ((first, 3) ∷ []) (rw e refl) refl;
}

abbrev made : {X Y : Type 0} → (X → Y) → Read ℕ X → Read ℕ Y
made make r = r >>= λ x. Ok (make x.0, x.1)

as_clauses : (r : Read ℕ (Placed × List Placed)) → made clauses_of r ≡ made (map clause) (made listed r)
as_clauses (Ok x) = refl
as_clauses (Err s) = refl

module _ {bytes : List ℕ} {at place : ℕ} {clauses : List Clause} (s : SoFar bytes at place clauses) where
  -- another clause may stand behind this `&`
  module _ (few : length clauses < 4) (h : begins_with 38 (drop place bytes) ≡ true) where
    clause_led : LedTo leads_clause s.last bytes place
    clause_led =
        let b = behind_it bytes place 38 h in
        let some : 0 < s.last.1 = omega (arith, s.room, few) in
        record { first = b.0; is = b.1; leads_on = let c = b.2 in grind (arith, nat_tests) }

    pub clause_read : (x : Clause) (after : ℕ) (more : List Clause) → clause_at (drop (place + 1) bytes) ≡ Ok (x, drop after bytes)
        → more ≡ clauses ++ x ∷ [] → SoFar bytes at after more
    clause_read x after more e is = record {
      all = s.all ++ (x, s.last.1 - 1) ∷ [];
      last = (x, s.last.1 - 1);
      are = is ∙ ap (λ (l : List Clause). l ++ x ∷ []) s.are ∙ sym (map-append clause s.all ((x, s.last.1 - 1) ∷ []));
      room = omega (arith, s.room, few, ap length is, length_push clauses x);
      left = left_on s.left placed_parts.shrinks clause_led after (x, s.last.1 - 1) (s.all ++ (x, s.last.1 - 1) ∷ []) (rw e refl) refl;
    }

    pub clause_failed : (stop : Stop ℕ) → clause_at (drop (place + 1) bytes) ≡ Err stop → filter_at (drop at bytes) ≡ Err stop
    clause_failed stop e = as_clauses (placed_clauses_at (drop at bytes)) ∙ rw (left_stops s.left placed_parts.shrinks clause_led stop (rw e refl)) refl

  -- no further clause stands there, or there are four
  pub clauses_done : (begins_with 38 (drop place bytes) ≡ false) ⊎ (4 ≤ length clauses) → filter_at (drop at bytes) ≡ Ok (clauses, drop place bytes)
  clauses_done end =
      as_clauses (placed_clauses_at (drop at bytes)) ∙ rw (left_done s.left (λ c cs is. last c cs is end)) refl
      ∙ ap (λ (l : List Clause). Ok (l, drop place bytes)) (sym s.are)
    where
      last : (c : ℕ) (cs : List ℕ) → drop place bytes ≡ c ∷ cs → (begins_with 38 (drop place bytes) ≡ false) ⊎ (4 ≤ length clauses)
          → leads_clause s.last c cs ≡ false
      last c cs is (inl h) = let no = sym (ap (begins_with 38) is) ∙ h in rw no refl
      last c cs is (inr many) = let none : s.last.1 ≡ 0 = omega (arith, s.room, many) in grind (arith, nat_tests)
