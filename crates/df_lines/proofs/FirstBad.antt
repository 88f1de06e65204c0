-- The first bad line of a text: its number, and that there is one.
use Rattle.std.proofs.Common.{◌≡◌, ℕ, ◌+◌, ◌<◌, ◌≤◌, List, [], ◌∷◌, ◌++◌, length, drop, Result, Ok, Err, IfOk, IfErr, sym, ap, subst, ◌∙◌, arith, append_assoc, inl, inr}
use Rattle.std.proofs.lemmas.List.Concat.{flat_map-append}
use Rattle.df_lines.specs.FirstBad.{IsFirstBad}
use Rattle.df_lines.specs.Lines.{EndsLine, ended, lines_text}
use Rattle.df_lines.specs.Kinds.{refused_line}
use Rattle.df_lines.specs.Refused.{IsBadLine, IsRefused, NamesBadLine}
use Rattle.df_lines.specs.code.Faults.{line_number, refusal}
use Rattle.df_lines.specs.code.Stops.{IsKind, IsStop, StopsBy}
use Rattle.df_lines.specs.declared.fault.FileFault.{FileFault}
use Rattle.df_lines.specs.declared.fault.FileFault.TheVariants as fault
use Rattle.df_lines.specs.declared.refused.BadKind.{BadKind}
use Rattle.df_lines.specs.declared.refused.BadKind.TheVariants.{Syntax, TooLarge}
use Rattle.df_lines.specs.declared.refused.FileRefused.{FileRefused}
use Rattle.df_lines.specs.declared.refused.FileRefused.TheVariants as refused
use Rattle.df_lines.proofs.Rows.{front_is}
use Rattle.df_lines.proofs.Splits.{pieces, pieces-lines, others, pieces-line, number-line, either_front}

module _ (IsText : List ℕ → Type 0) (IsLarge : List (List ℕ) → List ℕ → Type 0) (text : List ℕ) where
  -- the place where reading stops is told by the number of its line
  bad_line : (place : ℕ) (kind : BadKind) → place ≤ length text → (s : IsStop IsText IsLarge text (drop place text) kind)
      → IsBadLine IsText text (line_number text place) s.before s.bad
  bad_line place kind inside s =
      let whole = s.first.parts ∙ ap (λ (u : List ℕ). lines_text s.before ++ u) (sym s.here) in
      record { first = s.first; number = number-line text place s.before (front_is text (lines_text s.before) place inside whole) s.first.lines }

  pub names_line : (f : FileFault) → StopsBy IsText IsLarge text 0 f → NamesBadLine IsText IsLarge text (refusal text f)
  names_line fault.NoMemory s = tt
  names_line (fault.Bad place) s = (s.1.before, s.1.bad, bad_line place Syntax s.0 s.1, s.1.told)
  names_line (fault.TooLarge place) s = (s.1.before, s.1.bad, bad_line place TooLarge s.0 s.1, s.1.told)

-- ---- there is one first bad line

-- where further lines stand behind a line, it has its line feed
has_feed : (behind : List ℕ) → EndsLine behind → 0 < length (others behind) → (more : List ℕ) × (behind ≡ 10 ∷ more)
has_feed [] end some = absurd (omega arith)
has_feed (b ∷ bs) end some = (bs, ap (λ (c : ℕ). c ∷ bs) end)

-- the pieces of a text with a bad line
pieces_of : (IsText : List ℕ → Type 0) (text : List ℕ) (before : List (List ℕ)) (bad : List ℕ) (f : IsFirstBad IsText text before bad) → pieces text ≡ before ++ bad ∷ others f.behind
pieces_of IsText text before bad f =
    ap pieces f.parts ∙ pieces-lines before (bad ++ f.behind) f.lines ∙ ap (λ (m : List (List ℕ)). before ++ m) (pieces-line bad f.behind f.line f.end)

-- no later line is the first bad one
not_later : (IsText : List ℕ → Type 0) (text : List ℕ) (before after : List (List ℕ)) (bad other : List ℕ) (f : IsFirstBad IsText text before bad) → IsFirstBad IsText text after other
    → (rest : List (List ℕ)) → after ≡ before ++ bad ∷ rest → 0 < length (others f.behind) → ⊥
not_later IsText text before after bad other f g rest is some =
    let feed = has_feed f.behind f.end some in
    let grouped : after ≡ (before ++ bad ∷ []) ++ rest = is ∙ sym (append_assoc before (bad ∷ []) rest) in
    let lines : lines_text after ++ g.viable.0 ≡ lines_text (before ++ bad ∷ []) ++ (lines_text rest ++ g.viable.0) =
    ap (λ (t : List ℕ). t ++ g.viable.0) (ap lines_text grouped ∙ flat_map-append ended (before ++ bad ∷ []) rest) ∙ append_assoc (lines_text (before ++ bad ∷ [])) (lines_text rest) g.viable.0 in
    f.dead feed.0 feed.1 (lines_text rest ++ g.viable.0, subst IsText lines g.viable.1)

-- two first bad lines are the same
pub one_bad_line : (IsText : List ℕ → Type 0) (text : List ℕ) (before after : List (List ℕ)) (bad other : List ℕ) → IsFirstBad IsText text before bad → IsFirstBad IsText text after other → (before ≡ after) × (bad ≡ other)
one_bad_line IsText text before after bad other f g =
    elim (either_front before after bad other (others f.behind) (others g.behind) (sym (pieces_of IsText text before bad f) ∙ pieces_of IsText text after other g)) [
      | inl s ↦ s
      | inr s ↦
          elim s [
            | inl r ↦ absurd (not_later IsText text before after bad other f g r.0 r.1 r.2)
            | inr r ↦ absurd (not_later IsText text after before other bad g f r.0 r.1 r.2)
          ]
    ]

-- whether something too large stands in the first bad line is told
module _ (IsText : List ℕ → Type 0) (IsLarge : List (List ℕ) → List ℕ → Type 0) (text : List ℕ) where
  large_same : {before after : List (List ℕ)} {bad other : List ℕ} → IsFirstBad IsText text before bad → IsFirstBad IsText text after other
      → IsLarge before bad → IsLarge after other
  large_same {before} {after} {bad} {other} f g large =
      let one = one_bad_line IsText text before after bad other f g in
      subst (λ (l : List ℕ). IsLarge after l) one.1 (subst (λ (b : List (List ℕ)). IsLarge b bad) one.0 large)

  line_is : (line : ℕ) {before after : List (List ℕ)} {bad other : List ℕ} → IsBadLine IsText text line before bad
      → IsFirstBad IsText text after other
      → line ≡ length after + 1
  line_is line {before} {after} {bad} {other} b f =
      b.number ∙ ap (λ (ls : List (List ℕ)). length ls + 1) (one_bad_line IsText text before after bad other b.first f).0

  pub refused_as : {X : Type 0} (r : Result X FileRefused) → IfOk r (λ x. IsText text) → IfErr r (NamesBadLine IsText IsLarge text)
      → (kind : BadKind) (before : List (List ℕ)) (bad : List ℕ) → IsFirstBad IsText text before bad → IsKind kind (IsLarge before bad)
      → IsRefused (refused_line (length before + 1) kind) r
  refused_as (Ok x) ok err kind before bad f told = f.none ok
  refused_as (Err refused.NoMemory) ok err kind before bad f told = tt
  refused_as (Err (refused.Syntax line)) ok err Syntax before bad f told = ap refused.Syntax (line_is line err.2 f)
  refused_as (Err (refused.Syntax line)) ok err TooLarge before bad f told = absurd (err.3 (large_same f err.2.first told))
  refused_as (Err (refused.TooLarge line)) ok err Syntax before bad f told = absurd (told (large_same err.2.first f err.3))
  refused_as (Err (refused.TooLarge line)) ok err TooLarge before bad f told = ap refused.TooLarge (line_is line err.2 f)
