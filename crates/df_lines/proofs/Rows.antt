-- Where a line of one kind is to stand: what stands behind it, and where reading stops.
use Rattle.std.proofs.Common.{◌≡◌, ℕ, ◌≤◌, List, [], ◌∷◌, ◌++◌, length, take, drop, refl, sym, ap, subst, ◌∙◌, ◌⊎◌, ◌↔◌, inl, inr, arith, append_assoc, append-nil, length-append, length-drop}
use Rattle.std.proofs.lemmas.List.{append_cancel_left, take_at}
use Rattle.std.proofs.lemmas.List.Elements.{All-cons, All-nil}
use Rattle.df_lines.specs.FirstBad.{Begins}
use Rattle.df_lines.specs.Lines.{EndsLine, IsLine, ended, lines_text}
use Rattle.df_lines.specs.code.Stops.{IsKind, IsSpelled, IsStop, StopsAt, StopsBy}
use Rattle.df_lines.specs.declared.fault.FileFault.{FileFault}
use Rattle.df_lines.specs.declared.fault.FileFault.TheVariants as fault
use Rattle.df_lines.specs.declared.refused.BadKind.{BadKind}
use Rattle.df_lines.specs.declared.refused.BadKind.TheVariants.{Syntax, TooLarge}
use Rattle.df_lines.proofs.Splits.{others, pieces, pieces-line}

-- ---- the first line of a text

-- texts that are the same have the same first line
pub line_same : (l m u v : List ℕ) → IsLine l → IsLine m → EndsLine u → EndsLine v → l ++ u ≡ m ++ v → (l ≡ m) × (u ≡ v)
line_same l m u v hl hm hu hv e =
    let both : l ∷ others u ≡ m ∷ others v = sym (pieces-line l u hl hu) ∙ ap pieces e ∙ pieces-line m v hm hv in
    let same : l ≡ m = cc in
    (same, append_cancel_left l u v (e ∙ ap (λ (k : List ℕ). k ++ v) (sym same)))

-- this is a line with its line feed
pub record IsFed (text : List ℕ) : Type 0 where
  pub line : List ℕ
  pub free : IsLine line
  pub is : text ≡ ended line

pub unfed : {text : List ℕ} (l : IsFed text) (u : List ℕ) → text ++ u ≡ l.line ++ 10 ∷ u
unfed l u = ap (λ (t : List ℕ). t ++ u) l.is ∙ append_assoc l.line (10 ∷ []) u

pub fed_same : {s t : List ℕ} (u v : List ℕ) → IsFed s → IsFed t → s ++ u ≡ t ++ v → (s ≡ t) × (u ≡ v)
fed_same u v l m e =
    let both = line_same l.line m.line (10 ∷ u) (10 ∷ v) l.free m.free refl refl (sym (unfed l u) ∙ e ∙ unfed m v) in
    let fed : 10 ∷ u ≡ 10 ∷ v = both.1 in
    (l.is ∙ ap ended both.0 ∙ sym m.is, cc)

-- the texts are the same, or they go on behind the same line, or behind the same front of a line
abbrev pub Like : (List ℕ → Type 0) → List ℕ → List ℕ → Type 0
Like IsFront s t = (s ≡ t) ⊎ (((w x y : List ℕ) × IsLine w × (s ≡ w ++ 10 ∷ x) × (t ≡ w ++ 10 ∷ y))
    ⊎ ((front x y : List ℕ) × IsFront front × (s ≡ front ++ x) × (t ≡ front ++ y)))

-- ---- behind a line

-- where reading stops in the second text, as what may stand there tells, it stops as well in the first
abbrev pub Leads : (List ℕ → Type 0) → (List (List ℕ) → List ℕ → Type 0) → List ℕ
    → (List ℕ → Type 0) → (List (List ℕ) → List ℕ → Type 0) → List ℕ → Type 0
Leads IsText IsLarge s IsRest IsLargeRest t =
    (left : List ℕ) (kind : BadKind) → IsStop IsRest IsLargeRest t left kind → IsStop IsText IsLarge s left kind

-- the same text
pub leads_as : {IsText IsRest : List ℕ → Type 0} {IsLarge IsLargeRest : List (List ℕ) → List ℕ → Type 0} {s r t : List ℕ} → s ≡ r
    → Leads IsText IsLarge r IsRest IsLargeRest t → Leads IsText IsLarge s IsRest IsLargeRest t
leads_as {IsText} {IsRest} {IsLarge} same lead left kind k = subst (λ (u : List ℕ). IsStop IsText IsLarge u left kind) (sym same) (lead left kind k)

-- both or neither is too large
pub kind_as : {A B : Type 0} (kind : BadKind) → A ↔ B → IsKind kind A → IsKind kind B
kind_as Syntax both none = λ b. none (both.1 b)
kind_as TooLarge both large = both.0 large

-- lines behind a line
pub grouped : {text : List ℕ} (l : IsFed text) (before : List (List ℕ)) (u : List ℕ)
    → text ++ (lines_text before ++ u) ≡ lines_text (l.line ∷ before) ++ u
grouped l before u = ap (λ (t : List ℕ). t ++ (lines_text before ++ u)) l.is ∙ sym (append_assoc (ended l.line) (lines_text before) u)

module _ {IsText IsRest : List ℕ → Type 0} {text : List ℕ} (l : IsFed text) (from : (u : List ℕ) → IsText (text ++ u) → IsRest u)
    (to : (u : List ℕ) → IsRest u → IsText (text ++ u)) where
  pub leads : {IsLarge IsLargeRest : List (List ℕ) → List ℕ → Type 0}
      → ((before : List (List ℕ)) (bad : List ℕ) → IsLargeRest before bad ↔ IsLarge (l.line ∷ before) bad)
      → (t : List ℕ) → Leads IsText IsLarge (text ++ t) IsRest IsLargeRest t
  leads large t left kind s = record {
    before = l.line ∷ s.before;
    bad = s.bad;
    first = record {
      behind = s.first.behind;
      parts = ap (λ (u : List ℕ). text ++ u) s.first.parts ∙ grouped l s.before (s.bad ++ s.first.behind);
      lines = All-cons IsLine l.line s.before l.free s.first.lines;
      line = s.first.line;
      end = s.first.end;
      viable = (s.first.viable.0, subst IsText (grouped l s.before s.first.viable.0) (to _ s.first.viable.1));
      dead = λ more feed b. s.first.dead more feed (b.0, from _ (subst IsText (sym (grouped l (s.before ++ s.bad ∷ []) b.0)) b.1));
      none = λ u. s.first.none (from t u);
    };
    here = s.here;
    told = kind_as kind (large s.before s.bad) s.told;
  }

-- at places
pub leads_on : {IsText IsRest : List ℕ → Type 0} {IsLarge IsLargeRest : List (List ℕ) → List ℕ → Type 0} (bytes : List ℕ) (at place : ℕ)
    → Leads IsText IsLarge (drop at bytes) IsRest IsLargeRest (drop place bytes) → (f : FileFault) → StopsBy IsRest IsLargeRest bytes place f
    → StopsBy IsText IsLarge bytes at f
leads_on bytes at place lead fault.NoMemory s = tt
leads_on bytes at place lead (fault.Bad here) s = (s.0, lead _ Syntax s.1)
leads_on bytes at place lead (fault.TooLarge here) s = (s.0, lead _ TooLarge s.1)

-- ---- at a line

-- Each text that begins like this one begins with one of these lines.
module _ (IsFront IsText Is : List ℕ → Type 0) (here : List ℕ)
    (goes : (u : List ℕ) → Like IsFront u here → IsText u → (l : List ℕ) × (rest : List ℕ) × IsLine l × Is l × (u ≡ l ++ 10 ∷ rest)) where
  none_so : (bad behind u : List ℕ) → IsLine bad → EndsLine behind → ((more : List ℕ) → behind ≡ 10 ∷ more → ¬ Is bad)
      → Like IsFront u here → IsText u → u ≡ bad ++ behind → ⊥
  none_so bad behind u line end refused like t e =
      let g = goes u like t in
      let both = line_same bad g.0 behind (10 ∷ g.1) line g.2 end refl (sym e ∙ g.4) in
      refused g.1 both.1 (subst Is (sym both.0) g.3)

  -- a line that is none of them is the first bad one
  pub stop_here : {IsLarge : List (List ℕ) → List ℕ → Type 0} → Begins IsText [] → (bad : List ℕ) → StopsAt Is here bad → (kind : BadKind)
      → IsKind kind (IsLarge [] bad) → IsStop IsText IsLarge here here kind
  stop_here some bad s kind told = record {
    before = [];
    bad = bad;
    first = record {
      behind = s.behind;
      parts = s.parts;
      lines = All-nil IsLine;
      line = s.line;
      end = s.end;
      viable = some;
      dead = λ more feed b.
          let fed = ap (λ (u : List ℕ). u ++ b.0) (append-nil (ended bad)) ∙ append_assoc bad (10 ∷ []) b.0 in
          let like = inr (inl (bad, b.0, more, s.line, fed, s.parts ∙ ap (λ (u : List ℕ). bad ++ u) feed)) in
          none_so bad (10 ∷ b.0) _ s.line refl (λ m e. s.refused more feed) like b.1 fed;
      none = λ t. none_so bad s.behind here s.line s.end s.refused (inl refl) t s.parts;
    };
    here = s.parts;
    told = told;
  }

-- lines of which these are some
pub stops_as : {Is Are : List ℕ → Type 0} {bytes bad : List ℕ} → (Is bad → Are bad) → StopsAt Are bytes bad → StopsAt Is bytes bad
stops_as are s =
    record { behind = s.behind; parts = s.parts; line = s.line; end = s.end; refused = λ more feed is. s.refused more feed (are is) }

-- ---- rows

-- A row: one of these lines and what may stand behind it, or something else that begins with none of them.
pub record IsRow {X : Type 0} (text : X → List ℕ) (Fits : X → Type 0) (IsText : List ℕ → Type 0) (Behind : X → List ℕ → Type 0)
    (Other : List ℕ → Type 0) : Type 0 where
  pub feeds : (x : X) → Fits x → IsFed (text x)
  pub from : (u : List ℕ) → IsText u → Other u ⊎ ((x : X) × (rest : List ℕ) × Fits x × Behind x rest × (u ≡ text x ++ rest))
  pub to : (x : X) (u : List ℕ) → Fits x → Behind x u → IsText (text x ++ u)
  pub apart : (x : X) (u : List ℕ) → Fits x → ¬ Other (text x ++ u)
  pub same : (x y : X) → Fits x → Fits y → text x ≡ text y → (u : List ℕ) → Behind y u → Behind x u
  pub some : (x : X) → Fits x → Begins (Behind x) []
  pub one : (x : X) × Fits x

module _ {X : Type 0} {text : X → List ℕ} {Fits : X → Type 0} {IsText : List ℕ → Type 0} {Behind : X → List ℕ → Type 0}
    {Other : List ℕ → Type 0} (row : IsRow text Fits IsText Behind Other) where
  -- behind a line
  pub row_behind : (x : X) (u : List ℕ) → Fits x → IsText (text x ++ u) → Behind x u
  row_behind x u f t =
      elim (row.from (text x ++ u) t) [
        | inl o ↦ absurd (row.apart x u f o)
        | inr s ↦
            let both = fed_same u s.1 (row.feeds x f) (row.feeds s.0 s.2) s.4 in
            subst (Behind x) (sym both.1) (row.same x s.0 f s.2 both.0 s.1 s.3)
      ]

  -- there is a text
  pub row_some : Begins IsText []
  row_some = let b = row.some row.one.0 row.one.1 in (text row.one.0 ++ b.0, row.to row.one.0 b.0 row.one.1 b.1)

  pub row_leads : {IsLarge IsLargeRest : List (List ℕ) → List ℕ → Type 0} (x : X) (f : Fits x)
      → ((before : List (List ℕ)) (bad : List ℕ) → IsLargeRest before bad ↔ IsLarge ((row.feeds x f).line ∷ before) bad)
      → (t : List ℕ) → Leads IsText IsLarge (text x ++ t) (Behind x) IsLargeRest t
  row_leads x f large t = leads (row.feeds x f) (λ u. row_behind x u f) (λ u. row.to x u f) large t

  module _ (IsFront : List ℕ → Type 0) (here : List ℕ) (none : (u : List ℕ) → Like IsFront u here → ¬ Other u) where
    -- one is to stand here
    pub stands : (u : List ℕ) → Like IsFront u here → IsText u → (x : X) × (rest : List ℕ) × Fits x × Behind x rest × (u ≡ text x ++ rest)
    stands u like t = elim (row.from u t) [ inl o ↦ absurd (none u like o) | inr s ↦ s ]

    pub row_stop : {IsLarge : List (List ℕ) → List ℕ → Type 0} (bad : List ℕ) → StopsAt (IsSpelled text Fits) here bad → (kind : BadKind)
        → IsKind kind (IsLarge [] bad) → IsStop IsText IsLarge here here kind
    row_stop = stop_here IsFront IsText (IsSpelled text Fits) here (λ u like t.
        let g = stands u like t in
        let l = row.feeds g.0 g.2 in (l.line, g.1, l.free, (g.0, g.2, sym l.is), g.4 ∙ unfed l g.1)) row_some

-- ---- places

-- what stands in front of a place
pub front_is : (bytes front : List ℕ) (place : ℕ) → place ≤ length bytes → bytes ≡ front ++ drop place bytes → take place bytes ≡ front
front_is bytes front place inside e =
    let n : place ≡ length front = omega (arith, inside, ap length e, length-append front (drop place bytes), length-drop place bytes) in
    ap (take place) e ∙ take_at front (drop place bytes) place (sym n)
