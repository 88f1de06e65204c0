-- What is spelled from one place to another, and lines at a place.
use Rattle.df_journal_file.proofs.Names.{◌≡◌, ℕ, ◌≤◌, List, [], ◌∷◌, ◌++◌, length, drop, Option, Some, None, Result, Ok, Err, refl, sym, ap, subst, ◌∙◌, arith, append_assoc, append-nil, flat_map, flat_map-append, All-push, ArePassed, IsHere, IsLineHere, StopsLine, TellsAt, finished, IsLine, EndsLine}
use Rattle.df_script_text.specs.code.Stops.{fault_of}
use Rattle.df_journal_text.specs.code.Judging.{TellsLine, ended}
use Rattle.df_journal_text.specs.declared.line_fault.LineFault.{LineFault}
use Rattle.df_journal_text.specs.declared.line_fault.LineFault.TheVariants as fault

-- ---- from one place to another

module _ {X Y : Type 0} {text : X → List ℕ} {Fits : X → Type 0} {spell : Y → List ℕ} {Suits : Y → Type 0} {bytes : List ℕ} {at mid : ℕ} {x : X} {y : Y}
    (a : IsHere text Fits bytes at x mid) where
  -- the same as another
  pub as_here : Suits y → spell y ≡ text x → IsHere spell Suits bytes at y mid
  as_here fits e = record {
    fits = fits;
    onward = a.onward;
    inside = a.inside;
    parts = a.parts ∙ ap (λ (u : List ℕ). u ++ drop mid bytes) (sym e);
  }

  -- with another behind it
  pub both_here : {Z : Type 0} {write : Z → List ℕ} {Is : Z → Type 0} {z : Z} {end : ℕ} → IsHere spell Suits bytes mid y end → Is z
      → write z ≡ text x ++ spell y → IsHere write Is bytes at z end
  both_here {Z} {write} {Is} {z} {end} b fits e = record {
    fits = fits;
    onward = omega (arith, a.onward, b.onward);
    inside = b.inside;
    parts = simp (a.parts, b.parts, e, append_assoc);
  }

-- what has no text
pub none_here : {X : Type 0} {text : X → List ℕ} {Fits : X → Type 0} {bytes : List ℕ} {at : ℕ} {x : X} → at ≤ length bytes → Fits x → text x ≡ []
    → IsHere text Fits bytes at x at
none_here {X} {text} {Fits} {bytes} {at} {x} inside fits e =
    record { fits = fits; onward = omega arith; inside = inside; parts = ap (λ (u : List ℕ). u ++ drop at bytes) (sym e) }

-- one more line is passed
pub more_passed : {X : Type 0} {text : X → List ℕ} {Fits : X → Type 0} {bytes : List ℕ} {at place next : ℕ} (xs ys : List X) (x : X)
    → ArePassed text Fits bytes at xs place → IsHere text Fits bytes place x next → ys ≡ xs ++ x ∷ [] → ArePassed text Fits bytes at ys next
more_passed {X} {text} {Fits} {bytes} {at} {place} {next} xs ys x a h pushed =
    let same = flat_map-append text xs (x ∷ []) ∙ ap (λ (u : List ℕ). flat_map text xs ++ u) (append-nil (text x)) in
    subst (λ (zs : List X). ArePassed text Fits bytes at zs next) (sym pushed) (both_here a h (All-push Fits xs x a.fits h.fits) same)

-- ---- lines

module _ {X : Type 0} (text : X → List ℕ) (Fits : X → Type 0) (IsLarge : List ℕ → Type 0)
    (small : (line : List ℕ) (x : X) → Fits x → ended line ≡ text x → ¬ IsLarge line) (bytes : List ℕ) (at : ℕ) where
  -- a line that isn't read
  unread : (line behind : List ℕ) → IsLine line → EndsLine behind → drop at bytes ≡ line ++ behind → (f : LineFault)
      → TellsLine text Fits IsLarge line (Err f) → StopsLine text Fits IsLarge bytes at (fault_of at f)
  unread line behind free end parts fault.NoMemory t = tt
  unread line behind free end parts _ t =
      (refl, (line, record { behind = behind; parts = parts; line = free; end = end; refused = λ more e k. t.0 k.0 k.1 k.2 }, t.1))

  -- what is told of the line that stands at the place
  pub told_at : (line : List ℕ) (next : Option ℕ) → IsLineHere bytes at (line, next) → (r : Result X LineFault) → TellsLine text Fits IsLarge line r
      → TellsAt text Fits IsLarge bytes at (finished at next r)
  told_at line (Some next) here (Ok x) t =
      let parts = here.3 ∙ sym (append_assoc line (10 ∷ []) _) ∙ ap (λ (u : List ℕ). u ++ drop next bytes) t.1 in
      (record { fits = t.0; onward = omega (arith, here.1); inside = here.2; parts = parts }, here.1)
  told_at line None here (Ok x) t =
      let parts = sym here.1 ∙ sym (append-nil line) in
      (refl, (line, record { behind = []; parts = parts; line = here.0; end = tt; refused = λ more e. cc }, small line x t.0 t.1))
  told_at line (Some next) here (Err f) t = unread line (10 ∷ drop next bytes) here.0 refl here.3 f t
  told_at line None here (Err f) t = unread line [] here.0 tt (sym here.1 ∙ sym (append-nil line)) f t
