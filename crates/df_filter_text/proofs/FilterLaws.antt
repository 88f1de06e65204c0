-- Filters are read as they are spelled.
use Rattle.df_filter_text.proofs.Names.{◌≡◌, ℕ, ◌+◌, ◌-◌, ◌<◌, ◌≤◌, Bool, true, false, eqb, List, [], ◌∷◌, ◌++◌, length, refl, sym, ap, subst, ◌∙◌, arith, nat_lt, nat_tests, append-nil, map, eqb-true, cond, and_parts, Follow, ItemsFit, Leads, Parts, format_shrinks, items_format, items_spell, last_goes, Format, nowhere, made, fitting, viewed, Clause, clause_text, filter_text, IsClause, AreClauses, IsFilter, Placed, with_room, placed_at, leads_clause, next_clause_at, clauses_of, filter_at}
use Rattle.df_filter.specs.declared.clause.Test.TheVariants as test
use Rattle.df_filter_text.proofs.ClauseLaws.{clause_goes, clause_ends, clause_format}

-- a clause of the shortest kind
abbrev pub short_clause : Clause
short_clause = record { name = 97 ∷ []; test = test.Present }

pub short_fits : IsClause short_clause
short_fits = (refl, tt)

-- ---- clauses in their places

abbrev pub clause : Placed → Clause
clause p = p.0

abbrev pub placed_text : Placed → List ℕ
placed_text p = clause_text p.0

abbrev pub placed_goes : Placed → ℕ → Bool
placed_goes p c = clause_goes p.0 c

abbrev pub IsPlaced : Placed → Type 0
IsPlaced p = IsClause p.0

-- with so much room behind it
abbrev HasRoom : ℕ → Placed → Type 0
HasRoom room p = IsClause p.0 × (p.1 ≡ room)

abbrev pub AfterPlaced : Placed → Placed → Type 0
AfterPlaced prev p = IsClause p.0 × (p.1 + 1 ≡ prev.1)

placed_format : (room : ℕ) → Format nowhere placed_text (HasRoom room) placed_goes (placed_at room)
placed_format room =
    fitting (λ p h. subst (HasRoom room) h.2 (h.1, refl)) (λ p h. (p.0, h.0, ap (λ (n : ℕ). (p.0, n)) (sym h.1)))
    (made (with_room room) clause_format (λ x h. refl) (λ x c h. refl))

pub placed_parts : Parts (λ prev. nowhere) leads_clause 38 placed_text IsPlaced AfterPlaced placed_goes next_clause_at
placed_parts = record {
  item = λ prev cs fits h. let some : 0 < prev.1 = grind (arith, nat_tests) in
      fitting (λ p f. (f.0, omega (arith, f.1, some))) (λ p f. (f.0, omega (arith, f.1))) (placed_format (prev.1 - 1));
  shrinks = λ prev. format_shrinks nowhere placed_text (HasRoom (prev.1 - 1)) placed_goes (next_clause_at prev) (placed_format (prev.1 - 1));
  fits = λ prev p fits after. after.0;
  only = λ prev c cs h. eqb-true c 38 (and_parts (eqb c 38) (nat_lt 0 prev.1) h).0;
  led = λ prev p more fits after. let some : 0 < prev.1 = omega (arith, after.1) in grind (arith, nat_tests);
  at_sep = λ p fits. clause_ends p.0 38 refl;
}

placed_lead : Leads nowhere (λ prev. nowhere) leads_clause 38 placed_text IsPlaced AfterPlaced
placed_lead = record {
  first = λ prev c cs ds. refl;
  some = λ prev cs fits h. let some : 0 < prev.1 = grind (arith, nat_tests) in
      ((short_clause, prev.1 - 1), (short_fits, omega (arith, some)));
  near = λ p ps q front rest fits follow after near. near;
}

-- ---- a filter

-- clauses in their places
abbrev pub placed : ℕ → List Clause → List Placed
placed room [] = []
placed room (x ∷ xs) = (x, room) ∷ placed (room - 1) xs

-- as far as the last goes on, or another may follow
abbrev pub filter_goes : List Clause → ℕ → Bool
filter_goes [] c = false
filter_goes (x ∷ xs) c = last_goes leads_clause placed_goes (x, 3) (placed 2 xs) c

-- fewer go on at `&`, and no others
goes_at : (room : ℕ) (x : Clause) (xs : List Clause) → last_goes leads_clause placed_goes (x, room) (placed (room - 1) xs) 38 ≡ nat_lt (length xs) room
goes_at room x [] = rw (clause_ends x 38 refl) (elim (nat_lt 0 room) as (λ b. cond b true false ≡ b) [ true ↦ refl | false ↦ refl ])
goes_at room x (y ∷ ys) = goes_at (room - 1) y ys ∙ grind (arith, nat_tests)

pub four_end : (clauses : List Clause) → length clauses ≡ 4 → filter_goes clauses 38 ≡ false
four_end [] n = refl
four_end (x ∷ xs) n = goes_at 3 x xs ∙ grind (arith, nat_tests, n)

pub fewer_go_on : (clauses : List Clause) → IsFilter clauses → filter_goes clauses 38 ≡ false → length clauses ≡ 4
fewer_go_on [] fits h = absurd (omega (arith, fits.1))
fewer_go_on (x ∷ xs) fits h = let all : nat_lt (length xs) 3 ≡ false = sym (goes_at 3 x xs) ∙ h in grind (arith, nat_tests, fits.2)

placed_fit : (p : Placed) (ps : List Placed) → Follow AfterPlaced p ps → AreClauses (map clause ps) × (length (map clause ps) ≤ p.1)
placed_fit p [] h = (tt, omega arith)
placed_fit p (q ∷ qs) h = let r = placed_fit q qs h.1 in ((h.0.0, r.0), omega (arith, h.0.1, r.1))

placed_same : (p : Placed) (ps : List Placed) → Follow AfterPlaced p ps → placed (p.1 - 1) (map clause ps) ≡ ps
placed_same p [] h = refl
placed_same p (q ∷ qs) h =
    let room : p.1 - 1 ≡ q.1 = omega (arith, h.0.1) in
    ap (λ (n : ℕ). (q.0, n) ∷ placed (n - 1) (map clause qs)) room ∙ ap (λ (l : List Placed). q ∷ l) (placed_same q qs h.1)

placed_follow : (room : ℕ) (x : Clause) (xs : List Clause) → AreClauses xs → length xs ≤ room → Follow AfterPlaced (x, room) (placed (room - 1) xs)
placed_follow room x [] h le = tt
placed_follow room x (y ∷ ys) h le = ((h.0, omega (arith, le)), placed_follow (room - 1) y ys h.1 (omega (arith, le)))

placed_back : (room : ℕ) (xs : List Clause) → map clause (placed room xs) ≡ xs
placed_back room [] = refl
placed_back room (x ∷ xs) = ap (λ (l : List Clause). x ∷ l) (placed_back (room - 1) xs)

from_filter : (clauses : List Clause) → IsFilter clauses → (ps : Placed × List Placed) × ItemsFit (HasRoom 3) AfterPlaced ps × (clauses_of ps ≡ clauses)
from_filter [] h = absurd (omega (arith, h.1))
from_filter (x ∷ xs) h =
    (((x, 3), placed 2 xs), ((h.0.0, refl), placed_follow 3 x xs h.0.1 (omega (arith, h.2))), ap (λ (l : List Clause). x ∷ l) (placed_back 2 xs))

spelled : (p : Placed) (ps : List Placed) → filter_text (clauses_of (p, ps)) ≡ items_spell 38 placed_text (p, ps)
spelled p [] = sym (append-nil (clause_text p.0))
spelled p (q ∷ qs) = ap (λ (u : List ℕ). clause_text p.0 ++ (38 ∷ u)) (spelled q qs)

pub filter_format : Format nowhere filter_text IsFilter filter_goes filter_at
filter_format =
    viewed clauses_of (items_format placed_parts placed_lead (λ p h. h.0) (placed_at 3) (placed_format 3)) (record {
      to = λ ps h. let r = placed_fit ps.0 ps.1 h.1 in ((h.0.0, r.0), omega arith, omega (arith, h.0.1, r.1));
      from = from_filter;
      spelled = λ ps h. spelled ps.0 ps.1;
      alike = λ ps c h.
          ap (λ (n : ℕ). last_goes leads_clause placed_goes (ps.0.0, n) (placed (n - 1) (map clause ps.1)) c) (sym h.0.1)
          ∙ ap (λ (l : List Placed). last_goes leads_clause placed_goes ps.0 l c) (placed_same ps.0 ps.1 h.1);
    })
