-- Where reading a journal stops behind a line, or goes on as another language, and where a line is to stand.
use Rattle.df_journal_file.proofs.Names.{IsLargeIn, IsValueFront, IsHere, Onto, StopsIn, Begins, IsLine, ended, lines_text, FileFault, StopsAt, Err, IfErr, List, Ok, Result, [], ap, append_assoc, drop, inl, inr, length, refl, subst, sym, ℕ, ◌++◌, ◌↔◌, ◌∙◌, ◌∷◌, ◌≡◌, ◌≤◌, All-head, All-nil, All}
use Rattle.std.specs.Prelude.{IsErrAnd}
use Rattle.df_lines.proofs.Rows.{IsRow, Leads, Like, grouped, kind_as, leads_as, leads_on, row_behind, row_leads, stop_here}
use Rattle.df_lines.specs.declared.fault.FileFault.TheVariants as stop
use Rattle.df_lines.specs.declared.refused.BadKind.TheVariants.{Syntax}
use Rattle.df_journal_file.proofs.Fronts.{first_line}

-- a step that stopped
pub stopped : {X : Type 0} (P : FileFault → Type 0) {f : FileFault} (r : Result X FileFault) → IsErrAnd r (λ e. e ≡ f) → P f → IfErr r P
stopped P (Ok x) h p = absurd h
stopped P (Err e) h p = subst P (sym h) p

-- a value that is too large in another text
large_as : {IsText IsRest : List ℕ → Type 0} {before after : List (List ℕ)} {bad : List ℕ} (l : IsLargeIn IsText before bad)
    → Begins IsRest (lines_text after ++ l.front) → IsLargeIn IsRest after bad
large_as l viable = record { front = l.front; rest = l.rest; parts = l.parts; wanting = l.wanting; large = l.large; viable = viable }

-- ---- behind a line

module _ {X : Type 0} {text : X → List ℕ} {Fits : X → Type 0} {IsText : List ℕ → Type 0} {Behind : X → List ℕ → Type 0}
    {Other : List ℕ → Type 0} (row : IsRow text Fits IsText Behind Other) where
  -- a value is too large behind a line as in the whole
  pub large_behind : (x : X) (f : Fits x) (before : List (List ℕ)) (bad : List ℕ)
      → IsLargeIn (Behind x) before bad ↔ IsLargeIn IsText ((row.feeds x f).line ∷ before) bad
  large_behind x f before bad = (
    λ l. large_as l (l.viable.0, subst IsText (whole l.front l.viable.0) (row.to x _ f (subst (Behind x) (parts l.front l.viable.0) l.viable.1))),
    λ l. large_as l
        (l.viable.0, subst (Behind x) (sym (parts l.front l.viable.0)) (row_behind row x _ f (subst IsText (sym (whole l.front l.viable.0)) l.viable.1))),
  )
    where
      parts : (front more : List ℕ) → (lines_text before ++ front) ++ more ≡ lines_text before ++ (front ++ more)
      parts front more = append_assoc (lines_text before) front more

      whole : (front more : List ℕ) → text x ++ (lines_text before ++ (front ++ more)) ≡ (lines_text ((row.feeds x f).line ∷ before) ++ front) ++ more
      whole front more =
          grouped (row.feeds x f) before (front ++ more) ∙ sym (append_assoc (lines_text ((row.feeds x f).line ∷ before)) front more)

  pub line_leads : (x : X) → Fits x → (t : List ℕ) → Leads IsText (IsLargeIn IsText) (text x ++ t) (Behind x) (IsLargeIn (Behind x)) t
  line_leads x f t = row_leads row x f (large_behind x f) t

  -- one that was read
  pub row_onto : {bytes : List ℕ} {at place : ℕ} {x : X} → IsHere text Fits bytes at x place → Onto IsText bytes at (Behind x) place
  row_onto {bytes} {at} {place} {x} h = leads_on bytes at place (leads_as h.parts (line_leads x h.fits (drop place bytes)))

-- ---- another language

-- the first of several lines
head_line : (l : List ℕ) (ls : List (List ℕ)) (rest : List ℕ) → lines_text (l ∷ ls) ++ rest ≡ l ++ 10 ∷ (lines_text ls ++ rest)
head_line l ls rest = append_assoc (ended l) (lines_text ls) rest ∙ append_assoc l (10 ∷ []) (lines_text ls ++ rest)

-- what begins with the same lines and the bad one
like_dead : (here : List ℕ) (before : List (List ℕ)) (bad behind more rest : List ℕ) → All IsLine before → IsLine bad
    → here ≡ lines_text before ++ (bad ++ behind) → behind ≡ 10 ∷ more → Like IsValueFront (lines_text (before ++ bad ∷ []) ++ rest) here
like_dead here [] bad behind more rest free line e feed =
    inr (inl (bad, rest, more, line, head_line bad [] rest, e ∙ ap (λ (u : List ℕ). bad ++ u) feed))
like_dead here (l ∷ ls) bad behind more rest free line e feed =
    inr (inl (l, _, _, All-head IsLine l ls free, head_line l (ls ++ bad ∷ []) rest, e ∙ head_line l ls (bad ++ behind)))

-- what begins with the same lines and the same front of a value
like_front : (here : List ℕ) (before : List (List ℕ)) (bad behind front rest more : List ℕ) → All IsLine before → IsValueFront front
    → here ≡ lines_text before ++ (bad ++ behind) → bad ≡ front ++ rest → Like IsValueFront ((lines_text before ++ front) ++ more) here
like_front here [] bad behind front rest more free wanting e is =
    inr (inr (front, more, rest ++ behind, wanting, refl, e ∙ ap (λ (b : List ℕ). b ++ behind) is ∙ append_assoc front rest behind))
like_front here (l ∷ ls) bad behind front rest more free wanting e is =
    let groups = append_assoc (lines_text (l ∷ ls)) front more ∙ head_line l ls (front ++ more) in
    inr (inl (l, _, _, All-head IsLine l ls free, groups, e ∙ head_line l ls (bad ++ behind)))

-- at the same place, where what begins alike is of both languages
pub onto_here : (IsText IsRest : List ℕ → Type 0) (bytes : List ℕ) (at : ℕ)
    → ((u : List ℕ) → Like IsValueFront u (drop at bytes) → IsText u → IsRest u) → ((u : List ℕ) → IsRest u → IsText u)
    → Onto IsText bytes at IsRest at
onto_here IsText IsRest bytes at from to = leads_on bytes at at (λ left kind s.
    let f = s.first in
    let here : List ℕ = drop at bytes in
    let back : (l : IsLargeIn IsText s.before s.bad) → IsLargeIn IsRest s.before s.bad = λ l.
    large_as l (l.viable.0, from _ (like_front here s.before s.bad f.behind l.front l.rest l.viable.0 f.lines l.wanting f.parts l.parts) l.viable.1) in
    let large : IsLargeIn IsRest s.before s.bad ↔ IsLargeIn IsText s.before s.bad = (λ l. large_as l (l.viable.0, to _ l.viable.1), back) in
    record {
      before = s.before;
      bad = s.bad;
      first = record {
        behind = f.behind;
        parts = f.parts;
        lines = f.lines;
        line = f.line;
        end = f.end;
        viable = (f.viable.0, to _ f.viable.1);
        dead = λ more feed b. f.dead more feed (b.0, from _ (like_dead here s.before s.bad f.behind more b.0 f.lines f.line f.parts feed) b.1);
        none = λ t. f.none (from here (inl refl) t);
      };
      here = s.here;
      told = kind_as kind large s.told;
    })

-- ---- at a line

-- a value that is too large in it begins a text like the bytes
pub value_like : {IsText Is : List ℕ → Type 0} {here : List ℕ} (bad : List ℕ) → StopsAt Is here bad → (l : IsLargeIn IsText [] bad)
    → Like IsValueFront (l.front ++ l.viable.0) here
value_like {IsText} {Is} {here} bad s l =
    like_front here [] bad s.behind l.front l.rest l.viable.0 (All-nil IsLine) l.wanting s.parts l.parts

-- where no text that begins alike may stand
pub never_stop : (IsText : List ℕ → Type 0) (bytes : List ℕ) (at : ℕ) → at ≤ length bytes → Begins IsText []
    → ((u : List ℕ) → Like IsValueFront u (drop at bytes) → ¬ IsText u) → StopsIn IsText bytes at (stop.Bad at)
never_stop IsText bytes at inside some never =
    let f = first_line (drop at bytes) in
    let at_line : StopsAt (λ _. ⊥) (drop at bytes) f.bad =
    record { behind = f.behind; parts = f.parts; line = f.line; end = f.end; refused = λ more feed h. h } in (
      inside,
      stop_here IsValueFront IsText (λ _. ⊥) (drop at bytes) (λ u like t. absurd (never u like t)) some f.bad at_line Syntax
          (λ l. never _ (value_like f.bad at_line l) l.viable.1),
    )
