-- The lines of roots, and the line `run` behind them. Rest tells what may stand behind that line.
use Rattle.df_script_text.proofs.Names.{◌≡◌, ℕ, ◌+◌, ◌<◌, ◌≤◌, ◌^◌, ◌↔◌, List, [], ◌∷◌, ◌++◌, Option, Some, None, length, drop, begins_with, true, false, refl, sym, ap, subst, ◌∙◌, inl, inr, arith, append_assoc, All, All-cons, All-head, All-nil, All-tail, ended, lines_text, Begins, FileFault, IsFed, Leads, StopsBy, IsRow, leads_as, leads_on, row_leads, row_stop, stops_as, RootStart, IsRoot, root_text, roots_text, numbered, HeadFrom, IsHeadLine, RootsStop, StopsRoot, unended}
use Rattle.df_lines.specs.code.Stops.{IsSpelled}
use Rattle.df_lines.specs.declared.fault.FileFault.TheVariants as fault
use Rattle.df_lines.specs.declared.refused.BadKind.TheVariants.{Syntax}
use Rattle.df_script_text.proofs.Files.{IsLine-root, run}
use Rattle.df_script_text.proofs.Splits.{Avoids-text}

-- the line of the root of this number, or the line `run`
abbrev pub head_line : ℕ → Option RootStart → List ℕ
head_line n (Some r) = ended (root_text n r)
head_line n None = ended run

abbrev pub IsHead : ℕ → Option RootStart → Type 0
IsHead n (Some r) = (n + 1 < 2 ^ 32) × IsRoot r
IsHead n None = Unit {0}

abbrev head_feeds : (n : ℕ) → n < 2 ^ 32 → (x : Option RootStart) → IsHead n x → IsFed (head_line n x)
head_feeds n few (Some r) f = record { line = root_text n r; free = IsLine-root n r few f.1; is = refl }
head_feeds n few None f = record { line = run; free = Avoids-text run refl; is = refl }

-- a line that is spelled so is told so
head_is : (n : ℕ) (line : List ℕ) (x : Option RootStart) → IsHead n x → ended line ≡ head_line n x → IsHeadLine n line
head_is n line (Some r) f e = inr (f.0, (r, f.1, unended line (root_text n r) e))
head_is n line None f e = inl (unended line run e)

module _ (Rest : List ℕ → Type 0) (end : Begins Rest []) where
  -- what may stand behind the line
  abbrev pub BehindHead : ℕ → Option RootStart → List ℕ → Type 0
  BehindHead n (Some r) u = HeadFrom Rest (n + 1) u
  BehindHead n None u = Rest u

  pub split : (n : ℕ) (u : List ℕ) (roots : List RootStart) (rest : List ℕ) → n + length roots < 2 ^ 32 → All IsRoot roots → Rest rest
      → u ≡ roots_text n roots ++ (ended run ++ rest)
      → (x : Option RootStart) × (rest : List ℕ) × IsHead n x × BehindHead n x rest × (u ≡ head_line n x ++ rest)
  split n u [] rest few fits t e = (None, rest, tt, t, e)
  split n u (s ∷ ss) rest few fits t e =
      let more : HeadFrom Rest (n + 1) _ = (ss, rest, omega (arith, few), All-tail IsRoot s ss fits, t, refl) in
      (Some s, _, (omega (arith, few), All-head IsRoot s ss fits), more, e ∙ append_assoc (ended (root_text n s)) (roots_text (n + 1) ss) (ended run ++ rest))

  pub join : (n : ℕ) → n < 2 ^ 32 → (x : Option RootStart) (u : List ℕ) → IsHead n x → BehindHead n x u → HeadFrom Rest n (head_line n x ++ u)
  join n few (Some r) u f h = (
    r ∷ h.0,
    h.1,
    omega (arith, h.2),
    All-cons IsRoot r h.0 f.1 h.3,
    h.4,
    ap (λ (v : List ℕ). ended (root_text n r) ++ v) h.5 ∙ sym (append_assoc (ended (root_text n r)) (roots_text (n + 1) h.0) (ended run ++ h.1)),
  )
  join n few None u f t = ([], u, omega (arith, few), All-nil IsRoot, t, refl)

  -- the line tells which it is
  pub same : (n : ℕ) (x y : Option RootStart) → head_line n x ≡ head_line n y → (u : List ℕ) → BehindHead n y u → BehindHead n x u
  same n (Some r) (Some s) e u b = b
  same n None None e u b = b
  same n (Some r) None e u b = absurd (let no : true ≡ false = ap (begins_with 117) e in cc)
  same n None (Some r) e u b = absurd (let no : true ≡ false = ap (begins_with 114) e in cc)

  pub behind_some : (n : ℕ) (x : Option RootStart) → IsHead n x → Begins (BehindHead n x) []
  behind_some n (Some r) f = (ended run ++ end.0, ([], end.0, omega (arith, f.0), All-nil IsRoot, end.1, refl))
  behind_some n None f = end

  abbrev pub head_row : (n : ℕ) → n < 2 ^ 32 → IsRow (head_line n) (IsHead n) (HeadFrom Rest n) (BehindHead n) (λ _. ⊥)
  head_row n few = record {
    feeds = head_feeds n few;
    from = λ u h. inr (split n u h.0 h.1 h.2 h.3 h.4 h.5);
    to = join n few;
    apart = λ x u f no. no;
    same = λ x y f g e. same n x y e;
    some = behind_some n;
    one = (None, tt);
  }

  -- nothing is too large in such a line
  module _ (IsLarge : ℕ → List (List ℕ) → List ℕ → Type 0) (IsLargeRest : List (List ℕ) → List ℕ → Type 0)
      (more : (n : ℕ) (few : n < 2 ^ 32) (r : RootStart) → IsHead n (Some r) → (before : List (List ℕ)) (bad : List ℕ)
      → IsLarge (n + 1) before bad ↔ IsLarge n (root_text n r ∷ before) bad)
      (last : (n : ℕ) (few : n < 2 ^ 32) (before : List (List ℕ)) (bad : List ℕ) → IsLargeRest before bad ↔ IsLarge n (run ∷ before) bad)
      (small : (n : ℕ) → n < 2 ^ 32 → (bad : List ℕ) → ¬ IsLarge n [] bad) where
    -- behind roots
    roots_lead : (n k : ℕ) (rs : List RootStart) (t : List ℕ) → k ≡ n + length rs → k < 2 ^ 32 → All IsRoot rs
        → Leads (HeadFrom Rest n) (IsLarge n) (lines_text (numbered root_text n rs) ++ t) (HeadFrom Rest k) (IsLarge k) t
    roots_lead n k [] t is few f =
        let here : n ≡ k = omega (arith, is) in
        subst (λ (j : ℕ). Leads (HeadFrom Rest n) (IsLarge n) t (HeadFrom Rest j) (IsLarge j) t) here (λ left kind s. s)
    roots_lead n k (r ∷ rs) t is few f =
        let here : n < 2 ^ 32 = omega (arith, is, few) in
        let fits : IsHead n (Some r) = (omega (arith, is, few), All-head IsRoot r rs f) in
        leads_as (append_assoc (ended (root_text n r)) (lines_text (numbered root_text (n + 1) rs)) t) (λ left kind s.
        row_leads (head_row n here) (Some r) fits (more n here r fits) _ left kind
        (roots_lead (n + 1) k rs t (omega (arith, is)) few (All-tail IsRoot r rs f) left kind s))

    -- and behind the line `run`
    pub heads_lead : (rs : List RootStart) (t : List ℕ) → length rs < 2 ^ 32 → All IsRoot rs
        → Leads (HeadFrom Rest 0) (IsLarge 0) (lines_text (numbered root_text 0 rs) ++ (ended run ++ t)) Rest IsLargeRest t
    heads_lead rs t few f left kind s =
        roots_lead 0 (length rs) rs _ (omega arith) few f left kind
        (row_leads (head_row (length rs) few) None tt (last (length rs) few) t left kind s)

    -- a line that is none of these is bad
    root_stop : (n : ℕ) → n < 2 ^ 32 → (bytes : List ℕ) (at : ℕ) → at ≤ length bytes → (f : FileFault) → StopsRoot n bytes at f
        → StopsBy (HeadFrom Rest n) (IsLarge n) bytes at f
    root_stop n few bytes at inside fault.NoMemory s = tt
    root_stop n few bytes at inside (fault.Bad place) s =
        subst (λ (p : ℕ). StopsBy (HeadFrom Rest n) (IsLarge n) bytes at (fault.Bad p)) (sym s.0) (
          inside,
          row_stop (head_row n few) (λ _. ⊥) (drop at bytes) (λ u like no. no) s.1.0
              (stops_as {Is = IsSpelled (head_line n) (IsHead n)} (λ k. head_is n s.1.0 k.0 k.1 k.2) s.1.1) Syntax (small n few s.1.0),
        )
    root_stop n few bytes at inside (fault.TooLarge place) s = absurd s

    pub heads_stop : (bytes : List ℕ) (at : ℕ) (f : FileFault) → RootsStop bytes at f → StopsBy (HeadFrom Rest 0) (IsLarge 0) bytes at f
    heads_stop bytes at f s =
        leads_on bytes at s.1 (leads_as s.2.text (roots_lead 0 (length s.0) s.0 (drop s.1 bytes) (omega arith) s.2.few s.2.fit)) f
        (root_stop (length s.0) s.2.few bytes s.1 s.2.inside f s.3)
