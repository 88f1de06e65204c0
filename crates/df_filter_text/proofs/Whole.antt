-- What the laws of filters say of the reader of whole texts.
use Rattle.df_filter_text.proofs.Names.{◌≡◌, ℕ, ◌-◌, ◌≤◌, true, false, eqb, List, [], ◌∷◌, ◌++◌, length, drop, Ok, Err, refl, sym, ap, subst, ◌∙◌, arith, nat_lt, eqb-true, nat_tests, append-nil, ok_is, not_both, Read, nowhere, Result, length-drop, Clause, Bad, Low, FirstBad, ends_of, first_bad, begins_with, filter_text, IsFilter, filter_at}
use Rattle.df_filter.specs.Filter.{filter_of}
use Rattle.df_filter.specs.declared.filter.FilterRefused.{FilterRefused}
use Rattle.df_value_text.specs.code.Answer.{Fails}
use Rattle.df_value_text.specs.declared.refused.Fault.{Fault}
use Rattle.df_filter_text.specs.code.Answer.{HasFifth, IsRefused, IsRefusedBy, refusal}
use Rattle.df_value_text.specs.declared.refused.Fault.TheVariants as fault
use Rattle.df_filter_text.specs.declared.refused.FilterTextRefused.TheVariants as refused
use Rattle.df_filter_text.proofs.FilterLaws.{filter_goes, filter_format, four_end, fewer_go_on, short_clause, short_fits}

-- a filter's clauses make one
filter_made : (clauses : List Clause) → IsFilter clauses → filter_of clauses ≡ Ok clauses
filter_made clauses fits =
    let some : eqb (length clauses) 0 ≡ false = grind (arith, nat_tests, fits.1) in
    let few : nat_lt 4 (length clauses) ≡ false = grind (arith, nat_tests, fits.2) in
    rw (some, few) refl

pub made_is : (clauses filter : List Clause) (r : Result (List Clause) FilterRefused) → IsFilter clauses → r ≡ filter_of clauses → r ≡ Ok filter
    → clauses ≡ filter
made_is clauses filter r fits is e = let made = filter_made clauses fits in cc

pub is_made : (clauses : List Clause) (why : FilterRefused) (r : Result (List Clause) FilterRefused) → IsFilter clauses → r ≡ filter_of clauses → r ≡ Err why
    → ⊥
is_made clauses why r fits is e = let made = filter_made clauses fits in cc

pub some_bytes : (bytes : List ℕ) → eqb (length bytes) 0 ≡ false → bytes ≡ [] → ⊥
some_bytes bytes h none = let no = sym (ap (λ (u : List ℕ). eqb (length u) 0) none) ∙ h in cc

-- there are no bytes behind the last
pub nothing_left : (bytes : List ℕ) (place : ℕ) → length bytes ≤ place → drop place bytes ≡ []
nothing_left bytes place le = by (drop place bytes) (length-drop place bytes)
  where
    by : (rest : List ℕ) → length rest ≡ length bytes - place → rest ≡ []
    by [] e = refl
    by (c ∷ cs) e = absurd (omega (arith, e, le))

-- ---- what stands in front

pub whole_read : (bytes : List ℕ) (filter : List Clause) → IsFilter filter → bytes ≡ filter_text filter → filter_at bytes ≡ Ok (filter, [])
whole_read bytes filter fits is = ap filter_at (is ∙ sym (append-nil (filter_text filter))) ∙ filter_format.again filter [] fits tt

fifth_read : (bytes : List ℕ) (m : HasFifth bytes) → filter_at bytes ≡ Ok (m.clauses, 38 ∷ m.more)
fifth_read bytes m = ap filter_at m.is
    ∙ filter_format.again m.clauses (38 ∷ m.more) (m.fits, omega (arith, m.four), omega (arith, m.four)) (four_end m.clauses m.four)

pub none_whole : (bytes : List ℕ) (filter : List Clause) → eqb (length bytes) 0 ≡ true → IsFilter filter → bytes ≡ filter_text filter → ⊥
none_whole [] filter h fits is = not_both (filter, []) (Bad []) (sym (whole_read [] filter fits is))
none_whole (c ∷ cs) filter h fits is = let none : length (c ∷ cs) ≡ 0 = eqb-true (length (c ∷ cs)) 0 h in omega (arith, none)

-- ---- reading failed

-- where a filter stands, only memory was wanting
no_memory : {X : Type 0} (bytes : List ℕ) (e : Fault) (read : Read ℕ X) (x : X × List ℕ) → Fails bytes e read → read ≡ Ok x → e ≡ fault.NoMemory
no_memory bytes fault.NoMemory read x h is = refl
no_memory bytes (fault.Bad place) read x h is = not_both x (Bad (drop place bytes)) (sym is ∙ h.1)
no_memory bytes (fault.Low place) read x h is = not_both x (Low (drop place bytes)) (sym is ∙ h.1)

module _ (bytes : List ℕ) (e : Fault) (h : Fails bytes e (filter_at bytes)) where
  pub failed_only : (filter : List Clause) → IsFilter filter → bytes ≡ filter_text filter → refusal e ≡ refused.NoMemory
  failed_only filter fits is = ap refusal (no_memory bytes e (filter_at bytes) (filter, []) h (whole_read bytes filter fits is))

  fifth_fails : HasFifth bytes → e ≡ fault.NoMemory
  fifth_fails m = no_memory bytes e (filter_at bytes) (m.clauses, 38 ∷ m.more) h (fifth_read bytes m)

  pub failed_many : (X : Type 0) → HasFifth bytes → IsRefused {X = X} refused.TooManyClauses (Err (refusal e))
  failed_many X m = subst (λ (e : Fault). IsRefused {X = X} refused.TooManyClauses (Err (refusal e))) (sym (fifth_fails m)) tt

pub failed_refused : (bytes : List ℕ) (e : Fault) → (bytes ≡ [] → ⊥) → Fails bytes e (filter_at bytes) → IsRefusedBy bytes (refusal e)
failed_refused bytes fault.NoMemory some h = tt
failed_refused bytes (fault.Bad place) some h = (
  h.0,
  first_bad nowhere filter_text IsFilter filter_goes filter_at filter_format (short_clause ∷ []) ((short_fits, tt), omega arith, omega arith) bytes
      (drop place bytes) h.1,
  some,
  λ m. absurd (let no = fifth_fails bytes (fault.Bad place) h m in cc),
)
failed_refused bytes (fault.Low place) some h = absurd ((filter_format.stuck bytes (Low (drop place bytes)) h.1).cause)

-- ---- a filter was read

module _ (bytes : List ℕ) {clauses : List Clause} {rest : List ℕ} (e : filter_at bytes ≡ Ok (clauses, rest)) where
  same_read : (filter : List Clause) (behind : List ℕ) → filter_at bytes ≡ Ok (filter, behind) → (clauses ≡ filter) × (rest ≡ behind)
  same_read filter behind is =
      let both = ok_is (clauses, rest) (filter, behind) (sym e ∙ is) in
      (ap (λ (q : List Clause × List ℕ). q.0) both, ap (λ (q : List Clause × List ℕ). q.1) both)

  -- a whole filter is all of it
  pub whole_is : (filter : List Clause) → IsFilter filter → bytes ≡ filter_text filter → (clauses ≡ filter) × (rest ≡ [])
  whole_is filter fits is = same_read filter [] (whole_read bytes filter fits is)

  pub fifth_stands : HasFifth bytes → begins_with 38 rest ≡ true
  fifth_stands m = ap (begins_with 38) (same_read m.clauses (38 ∷ m.more) (fifth_read bytes m)).1

  -- what is read is a filter
  pub read_fits : IsFilter clauses
  read_fits = (filter_format.found bytes clauses rest e).fits

  pub read_is : rest ≡ [] → bytes ≡ filter_text clauses
  read_is none = (filter_format.found bytes clauses rest e).parts ∙ ap (λ (u : List ℕ). filter_text clauses ++ u) none ∙ append-nil (filter_text clauses)

  -- behind it a byte stands with which no filter goes on
  pub bad_behind : FirstBad filter_text IsFilter bytes rest
  bad_behind =
      let found = filter_format.found bytes clauses rest e in
      record {
        front = filter_text clauses;
        parts = found.parts;
        viable = record { some = clauses; fits = found.fits; more = []; is = sym (append-nil (filter_text clauses)) };
        dead = ends_of nowhere filter_text IsFilter filter_goes filter_at filter_format clauses rest found.fits found.ends;
      }

pub has_fifth : (bytes : List ℕ) {clauses : List Clause} (rest : List ℕ) → filter_at bytes ≡ Ok (clauses, rest) → begins_with 38 rest ≡ true → HasFifth bytes
has_fifth bytes [] e h = absurd cc
has_fifth bytes {clauses} (c ∷ more) e h =
    let found = filter_format.found bytes clauses (c ∷ more) e in
    let is : c ≡ 38 = eqb-true c 38 h in
    record {
      clauses = clauses;
      fits = found.fits.0;
      four = fewer_go_on clauses found.fits (ap (filter_goes clauses) (sym is) ∙ found.ends);
      more = more;
      is = found.parts ∙ ap (λ (v : ℕ). filter_text clauses ++ v ∷ more) is;
    }
