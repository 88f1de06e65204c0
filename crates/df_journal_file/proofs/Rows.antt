-- The table of what may stand in a journal: at each place a line of one kind and what may stand behind it, or something else.
use Rattle.df_journal_file.proofs.Names.{IsLargeIn, IsValueFront, BehindSome, Many, Then, AreMarked, ArePassed, IsSpelled, MarkedStop, StopsLine, Onto, StopsIn, begins_pair, Begins, ended, FileFault, StopsAt, begins_with, List, [], ap, append_assoc, arith, drop, eqb, false, inl, inr, length, refl, subst, suc, sym, true, ℕ, ◌++◌, ◌+◌, ◌<◌, ◌∙◌, ◌∷◌, ◌≡◌, ◌≤◌, ◌⊎◌, All-cons, All-head, All-nil, All-tail, All, flat_map, IsLargeWord}
use Rattle.df_lines.specs.declared.fault.FileFault.TheVariants as stop
use Rattle.df_lines.specs.declared.refused.BadKind.TheVariants.{Syntax, TooLarge}
use Rattle.df_lines.proofs.Rows as lines
use Rattle.df_lines.proofs.Rows.{IsFed, IsRow, Leads, Like, leads_as, leads_on, row_some, stands, stops_as}
use Rattle.df_journal_file.proofs.Fronts.{IsFrontOf, alike, is_front, one_result}
use Rattle.df_journal_file.proofs.Ontos.{line_leads, never_stop, onto_here, value_like}

-- ---- kinds of lines

-- the line is that of something, up to a value that is too large
pub record IsLargeOf {X : Type 0} (text : X → List ℕ) (Fits : X → Type 0) (bad : List ℕ) : Type 0 where
  pub front : List ℕ
  pub rest : List ℕ
  pub parts : bad ≡ front ++ rest
  pub wanting : IsValueFront front
  pub large : IsLargeWord rest
  pub item : X
  pub fits : Fits item
  pub more : List ℕ
  pub is : text item ≡ front ++ more

-- where a value in a kind of line is too large
pub record IsKind {X : Type 0} (text : X → List ℕ) (Fits : X → Type 0) (IsLarge : List ℕ → Type 0) : Type 0 where
  pub small : (x : X) → Fits x → (u front more rest : List ℕ) → IsValueFront front → front ++ more ≡ text x ++ u
      → IsLargeWord rest → IsLarge (front ++ rest)
  pub large : (bad : List ℕ) → IsLarge bad → IsLargeOf text Fits bad

-- one without value: each begins with this byte
pub bare_kind : {X : Type 0} {text : X → List ℕ} {Fits : X → Type 0} (byte : ℕ) → ((front : List ℕ) → ¬ IsFrontOf byte front)
    → ((x : X) (u : List ℕ) → begins_with byte (text x ++ u) ≡ true) → IsKind text Fits (λ _. ⊥)
bare_kind byte none begins = record {
  small = λ x f u front more rest w e l. none front (is_front byte front more w (ap (begins_with byte) e ∙ begins x u));
  large = λ bad no. absurd no;
}

-- ---- rows of the table

module _ {X : Type 0} {text : X → List ℕ} {Fits : X → Type 0} {IsLarge : List ℕ → Type 0} (kind : IsKind text Fits IsLarge)
    {IsText : List ℕ → Type 0} {Behind : X → List ℕ → Type 0} {Other : List ℕ → Type 0} (row : IsRow text Fits IsText Behind Other)
    (bytes : List ℕ) (at : ℕ) (inside : at ≤ length bytes) (none : (u : List ℕ) → Like IsValueFront u (drop at bytes) → ¬ Other u) where
  small : (bad : List ℕ) → StopsAt (IsSpelled text Fits) (drop at bytes) bad → IsLargeIn IsText [] bad → IsLarge bad
  small bad s l =
      let g = stands row IsValueFront (drop at bytes) none _ (value_like bad s l) l.viable.1 in
      subst IsLarge (sym l.parts) (kind.small g.0 g.2 g.1 l.front l.viable.0 l.rest l.wanting g.4 l.large)

  large : (bad : List ℕ) → IsLarge bad → IsLargeIn IsText [] bad
  large bad h =
      let k = kind.large bad h in
      let b = row.some k.item k.fits in
      let is : text k.item ++ b.0 ≡ k.front ++ (k.more ++ b.0) = ap (λ (v : List ℕ). v ++ b.0) k.is ∙ append_assoc k.front k.more b.0 in
      record {
        front = k.front;
        rest = k.rest;
        parts = k.parts;
        wanting = k.wanting;
        large = k.large;
        viable = (k.more ++ b.0, subst IsText is (row.to k.item b.0 k.fits b.1));
      }

  -- where a line isn't read, reading stops
  pub row_stop : (f : FileFault) → StopsLine text Fits IsLarge bytes at f → StopsIn IsText bytes at f
  row_stop stop.NoMemory s = tt
  row_stop (stop.Bad place) s =
      subst (λ (p : ℕ). StopsIn IsText bytes at (stop.Bad p)) (sym s.0)
      (inside, lines.row_stop row IsValueFront (drop at bytes) none s.1.0 s.1.1 Syntax (λ l. s.1.2 (small s.1.0 s.1.1 l)))
  row_stop (stop.TooLarge place) s =
      subst (λ (p : ℕ). StopsIn IsText bytes at (stop.TooLarge p)) (sym s.0)
      (inside, lines.row_stop row IsValueFront (drop at bytes) none s.1.0 s.1.1 TooLarge (large s.1.0 s.1.2))

-- a line that is none of these, where no value is to stand
pub bare_stop : {X : Type 0} {text : X → List ℕ} {Fits : X → Type 0} {Is : List ℕ → Type 0}
    → ((line : List ℕ) (x : X) → Fits x → ended line ≡ text x → Is line) → (bytes : List ℕ) (at place : ℕ)
    → (place ≡ at) × ((bad : List ℕ) × StopsAt Is (drop at bytes) bad) → StopsLine text Fits (λ _. ⊥) bytes at (stop.Bad place)
bare_stop {X} {text} {Fits} is bytes at place s =
    (s.0, (s.1.0, stops_as {Is = IsSpelled text Fits} (λ k. is s.1.0 k.0 k.1 k.2) s.1.1, λ no. no))

-- one line, and what may stand behind it
pub then_row : {X : Type 0} (text : X → List ℕ) (Fits : X → Type 0) (Rest : List ℕ → Type 0) → ((x : X) → Fits x → IsFed (text x))
    → (x : X) → Fits x → Begins Rest [] → IsRow text Fits (Then text Fits Rest) (λ _. Rest) (λ _. ⊥)
then_row text Fits Rest feeds x f b = record {
  feeds = feeds;
  from = λ u t. inr t;
  to = λ x u f r. (x, u, f, r, refl);
  apart = λ x u f no. no;
  same = λ x y f g e u r. r;
  some = λ x f. b;
  one = (x, f);
}

-- ---- as many lines as there are

-- a kind of line with a mark, and what may stand behind as many as there are, which has another mark
pub record IsRun {X : Type 0} (text : X → List ℕ) (Fits : X → Type 0) (mark : ℕ) (IsLarge : List ℕ → Type 0) (Rest : ℕ → List ℕ → Type 0)
    : Type 0 where
  pub feeds : (x : X) → Fits x → IsFed (text x)
  pub kind : IsKind text Fits IsLarge
  pub free : eqb 10 mark ≡ false
  pub marks : (x : X) (u : List ℕ) → begins_pair mark 32 (text x ++ u) ≡ true
  pub ends : (n : ℕ) (u : List ℕ) → Rest n u → begins_pair mark 32 u ≡ false
  pub some : (n : ℕ) → Begins (Rest (n + 1)) []
  pub one : (x : X) × Fits x

module _ {X : Type 0} {text : X → List ℕ} {Fits : X → Type 0} {mark : ℕ} {IsLarge : List ℕ → Type 0} {Rest : ℕ → List ℕ → Type 0}
    (run : IsRun text Fits mark IsLarge Rest) where
  -- what may stand behind n lines
  abbrev From : ℕ → List ℕ → Type 0
  From n u = Many text Fits Rest n u

  -- a count of lines, written otherwise
  recount : (n k : ℕ) (u : List ℕ) → n ≡ k → Rest n u → Rest k u
  recount n k u is r = subst (λ (k : ℕ). Rest k u) is r

  -- none, or one in front of more
  split : (n : ℕ) (u : List ℕ) (xs : List X) (rest : List ℕ) → All Fits xs → Rest (n + length xs) rest → u ≡ flat_map text xs ++ rest
      → Rest n u ⊎ ((x : X) × (rest : List ℕ) × Fits x × From (n + 1) rest × (u ≡ text x ++ rest))
  split n u [] rest f r e = inl (subst (Rest n) (sym e) (recount (n + 0) n rest (omega arith) r))
  split n u (x ∷ xs) rest f r e =
      let more : From (n + 1) (flat_map text xs ++ rest) =
      (xs, rest, All-tail Fits x xs f, recount (n + suc (length xs)) (n + 1 + length xs) rest (omega arith) r, refl) in
      inr (x, flat_map text xs ++ rest, All-head Fits x xs f, more, e ∙ append_assoc (text x) (flat_map text xs) rest)

  none_from : (n : ℕ) (u : List ℕ) → Rest n u → From n u
  none_from n u r = ([], u, All-nil Fits, recount n (n + 0) u (omega arith) r, refl)

  pub run_row : (n : ℕ) → IsRow text Fits (From n) (λ _. From (n + 1)) (Rest n)
  run_row n = record {
    feeds = run.feeds;
    from = λ u m. split n u m.0 m.1 m.2 m.3 m.4;
    to = λ x u f m. (
      x ∷ m.0,
      m.1,
      All-cons Fits x m.0 f m.2,
      recount (n + 1 + length m.0) (n + suc (length m.0)) m.1 (omega arith) m.3,
      ap (λ (v : List ℕ). text x ++ v) m.4 ∙ sym (append_assoc (text x) (flat_map text m.0) m.1),
    );
    apart = λ x u f r. one_result (run.marks x u) (run.ends n (text x ++ u) r);
    same = λ x y f g e u m. m;
    some = λ x f. let b = run.some n in (b.0, none_from (n + 1) b.0 b.1);
    one = run.one;
  }

  -- no more of them, where the mark doesn't stand there
  pub run_none : (n : ℕ) (u : List ℕ) → begins_pair mark 32 u ≡ false → From n u → Rest n u
  run_none n u b m =
      elim (split n u m.0 m.1 m.2 m.3 m.4) [ inl r ↦ r | inr s ↦ one_result (ap (begins_pair mark 32) s.4 ∙ run.marks s.0 s.1) b ]

  run_other : (n : ℕ) (bytes : List ℕ) (place : ℕ) → begins_pair mark 32 (drop place bytes) ≡ false → Onto (From n) bytes place (Rest n) place
  run_other n bytes place b = onto_here (From n) (Rest n) bytes place (λ u like m. run_none n u ((alike u _ like mark).1 run.free ∙ b) m) (none_from n)

  -- lines with the mark
  more_leads : (n k : ℕ) (xs : List X) (t : List ℕ) → k ≡ n + length xs → All Fits xs
      → Leads (From n) (IsLargeIn (From n)) (flat_map text xs ++ t) (From k) (IsLargeIn (From k)) t
  more_leads n k [] t is f =
      let here : n ≡ k = omega (arith, is) in
      subst (λ (j : ℕ). Leads (From n) (IsLargeIn (From n)) t (From j) (IsLargeIn (From j)) t) here (λ left kind s. s)
  more_leads n k (x ∷ xs) t is f =
      leads_as (append_assoc (text x) (flat_map text xs) t) (λ left kind s.
      line_leads (run_row n) x (All-head Fits x xs f) _ left kind (more_leads (n + 1) k xs t (omega (arith, is)) (All-tail Fits x xs f) left kind s))

  more_onto : (bytes : List ℕ) (at place : ℕ) (xs : List X) (n : ℕ) → ArePassed text Fits bytes at xs place
      → Onto (From n) bytes at (From (n + length xs)) place
  more_onto bytes at place xs n passed =
      leads_on bytes at place (leads_as passed.parts (more_leads n (n + length xs) xs (drop place bytes) refl passed.fits))

  -- one of these stands where the mark does
  pub some_marked : {bytes : List ℕ} {at place : ℕ} (xs : List X) → AreMarked text Fits mark bytes at xs place
      → begins_pair mark 32 (drop at bytes) ≡ true → 0 < length xs
  some_marked [] m marked = one_result marked (ap (begins_pair mark 32) m.0.parts ∙ m.1)
  some_marked (x ∷ xs) m marked = omega arith

  -- no further line with the mark stands behind these
  pub run_onto : (bytes : List ℕ) (at place : ℕ) (xs : List X) (n : ℕ) → AreMarked text Fits mark bytes at xs place
      → Onto (From n) bytes at (Rest (n + length xs)) place
  run_onto bytes at place xs n m = λ f s. more_onto bytes at place xs n m.0 f (run_other (n + length xs) bytes place m.1 f s)

  -- a line with the mark that isn't read
  pub run_stop : (bytes : List ℕ) (at n : ℕ) (f : FileFault) → MarkedStop text Fits IsLarge mark bytes at f → StopsIn (From n) bytes at f
  run_stop bytes at n f s =
      let k : ℕ = n + length s.0 in
      more_onto bytes at s.1 s.0 n s.2 f
      (row_stop run.kind (run_row k) bytes s.1 s.2.inside (λ u like r. one_result ((alike u _ like mark).1 run.free ∙ s.3) (run.ends k u r)) f s.4)

-- where one line at least is to stand
module _ {X : Type 0} {text : X → List ℕ} {Fits : X → Type 0} {mark : ℕ} {IsLarge : List ℕ → Type 0} (Behind : List ℕ → Type 0)
    (run : IsRun text Fits mark IsLarge (BehindSome Behind)) (bytes : List ℕ) (at : ℕ) where
  -- some do
  pub filled_onto : (place : ℕ) (xs : List X) → AreMarked text Fits mark bytes at xs place → (n : ℕ) → 0 < n + length xs
      → Onto (Many text Fits (BehindSome Behind) n) bytes at Behind place
  filled_onto place xs m n some = λ f s.
      run_onto run bytes at place xs n m f (onto_here (BehindSome Behind (n + length xs)) Behind bytes place (λ u like t. t.1) (λ u t. (some, t)) f s)

  -- none does
  pub empty_stop : at ≤ length bytes → begins_pair mark 32 (drop at bytes) ≡ false → StopsIn (Many text Fits (BehindSome Behind) 0) bytes at (stop.Bad at)
  empty_stop inside unmarked =
      never_stop (Many text Fits (BehindSome Behind) 0) bytes at inside (row_some (run_row run 0))
      (λ u like t. let some = run_none run 0 u ((alike u _ like mark).1 run.free ∙ unmarked) t in omega (arith, some.0))
