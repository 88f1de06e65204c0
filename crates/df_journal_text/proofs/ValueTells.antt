-- What the reader of values answers, as a word of a line.
use Rattle.df_journal_text.proofs.Names.{◌≡◌, ℕ, ◌≤◌, List, [], ◌∷◌, ◌++◌, length, drop, Ok, Err, sym, ap, subst, ◌∙◌, arith, inl, inr, text_at, not_both, told, text_found, IsValue, value_at, value_text, Fails, IsFound, IsRead, IsSyntaxAt, EndsWord, Fault, value_format, value_goes, IsLargeWord, IsTooLarge, word, word_at, Tells, line_fault, value_fault, Plain}
use Rattle.std.specs.Prelude.{nat_lt}
use Rattle.std.proofs.lemmas.Bool.Decides.{nat_tests}
use Rattle.df_format.specs.Grammar.{Stands}
use Rattle.df_format.proofs.Longest.{goes_on}
use Rattle.df_value_text.specs.Counting.{AreWithin, FirstOver, counts_of, start, walked}
use Rattle.df_value_text.specs.OrderNames.{LowInValue}
use Rattle.df_value_text.specs.ValueFault.{FirstTooLarge, IsTooLargeAt, IsWithinBefore, NamesTooLarge, NoLowBefore}
use Rattle.df_value_text.specs.declared.refused.TextRefused.{TextRefused}
use Rattle.df_value_text.proofs.CountingFronts.{walked_on, within_before}
use Rattle.df_value_text.proofs.CountingLaws.{walked-append}
use Rattle.df_value_text.proofs.LimitLaws.{no_value}
use Rattle.df_value_text.proofs.ValueAnswers.{value_ends, value_read}
use Rattle.df_value_text.specs.declared.refused.TextRefused.TheVariants as refused
use Rattle.df_journal_text.proofs.Stopped.{on_fault}
use Rattle.df_format.specs.Format.{Ends}
use Rattle.df_value_text.proofs.WordEnds.{value_stands}

abbrev pub value_word_text : Plain → List ℕ
value_word_text v = word (value_text v)

-- a value that is read is none that is too large
pub value_apart : (bytes : List ℕ) (p : Plain) (rest : List ℕ) → word_at value_at bytes ≡ Ok (p, rest) → IsValue p → IsLargeWord bytes → ⊥
value_apart bytes p rest e fits l =
    let read : value_at l.value ≡ Ok (p, rest) = sym (ap (word_at value_at) l.parts) ∙ e in
    let f = value_format.found l.value p rest read in
    no_value l.value l.large.rest l.large.over.over p rest (record {
      parts = f.parts;
      fits = fits;
      ends = λ c tail is on. value_ends p c f.fits (subst (Ends value_goes p) is f.ends)
          (record { some = on.some; fits = on.fits.0; more = on.more; is = on.is });
    })

-- ---- no space

pub no_space : (bytes : List ℕ) (at : ℕ) (e : Fault) → Fails bytes e (text_at (32 ∷ []) (drop at bytes))
    → Tells value_word_text IsValue EndsWord IsLargeWord (word_at value_at) bytes at (Err (line_fault e))
no_space bytes at e h =
    on_fault (λ f. Tells value_word_text IsValue EndsWord IsLargeWord (word_at value_at) bytes at (Err f)) bytes (text_at (32 ∷ []) (drop at bytes)) e h tt
    (λ stop s. (
      λ v rest fits end is. not_both (32 ∷ [], value_text v ++ rest) stop (sym (ap (text_at (32 ∷ [])) is) ∙ s),
      λ large. not_both (32 ∷ [], large.value) stop (sym (ap (text_at (32 ∷ [])) large.parts) ∙ s),
    ))

-- ---- no value

within_front : (bytes low rest : List ℕ) → FirstOver bytes rest → length rest ≤ length low → IsWithinBefore bytes low
within_front bytes low rest o le front is =
    let f = goes_on front low o.front (o.first ∷ o.more) (sym is ∙ o.parts) (omega (arith, ap length o.is)) in
    let further : counts_of o.front ≡ walked (counts_of front) f.0 = ap counts_of f.1 ∙ walked-append start front f.0 in
    within_before (counts_of front) (walked (counts_of front) f.0) (walked_on (counts_of front) f.0) (subst AreWithin further o.within)

module _ (bytes : List ℕ) (at behind : ℕ) (space : text_at (32 ∷ []) (drop at bytes) ≡ Ok (32 ∷ [], drop behind bytes)) where
  spaced : drop at bytes ≡ 32 ∷ drop behind bytes
  spaced = (text_found (32 ∷ []) (drop at bytes) (32 ∷ []) (drop behind bytes) space).1

  value_behind : (more : List ℕ) → drop at bytes ≡ 32 ∷ more → more ≡ drop behind bytes
  value_behind more is = let same : 32 ∷ more ≡ 32 ∷ drop behind bytes = sym is ∙ spaced in cc

  no_word : (r : TextRefused) → (r ≡ refused.NoMemory → ⊥)
      → ((v : Plain) (rest : List ℕ) → Stands value_text IsValue (drop behind bytes) v rest → r ≡ refused.NoMemory)
      → (v : Plain) (rest : List ℕ) → IsValue v → EndsWord rest → drop at bytes ≡ value_word_text v ++ rest → ⊥
  no_word r told only v rest fits end is =
      let same : value_text v ++ rest ≡ drop behind bytes = value_behind (value_text v ++ rest) is in
      told (only v rest (subst (λ (u : List ℕ). Stands value_text IsValue u v rest) same (value_stands v rest fits end)))

  pub refused_tells : (r : TextRefused)
      → ((v : Plain) (rest : List ℕ) → Stands value_text IsValue (drop behind bytes) v rest → IsRead {X = Plain} bytes v rest (Err r))
      → NamesTooLarge bytes behind r
      → ((rest : List ℕ) → FirstTooLarge (drop behind bytes) rest → NoLowBefore (drop behind bytes) rest → IsTooLargeAt {X = Plain} bytes rest (Err r))
      → ((rest : List ℕ) → LowInValue (drop behind bytes) rest → IsWithinBefore (drop behind bytes) rest → IsSyntaxAt {X = Plain} bytes rest (Err r))
      → Tells value_word_text IsValue EndsWord IsLargeWord (word_at value_at) bytes at (Err (value_fault r))
  refused_tells refused.NoMemory only too_large over order = tt
  refused_tells (refused.Syntax place) only too_large over order = (
    no_word (refused.Syntax place) (λ e. absurd cc) only,
    λ large.
        let l : IsTooLarge (drop behind bytes) = subst IsTooLarge (value_behind large.value large.parts) large.large in
        over l.rest l.over l.ordered,
  )
  refused_tells (refused.TooLarge place) only too_large over order = (
    no_word (refused.TooLarge place) (λ e. absurd cc) only,
    record {
      value = drop behind bytes;
      parts = spaced;
      large = record {
        rest = drop place bytes;
        over = too_large.1;
        ordered = λ low l.
            elim (told (nat_lt (length low) (length (drop place bytes)))) [
              | inl h ↦ grind (arith, nat_tests, h)
              | inr h ↦
                  let le : length (drop place bytes) ≤ length low = grind (arith, nat_tests, h) in
                  absurd (order low (l.front, l.parts, l.low) (within_front (drop behind bytes) low (drop place bytes) too_large.1.over le))
            ];
      };
    },
  )

  pub found_tells : (v : Plain) (end : ℕ) → IsFound value_text IsValue bytes behind (v, end)
      → Tells value_word_text IsValue EndsWord IsLargeWord (word_at value_at) bytes at (Ok (v, end))
  found_tells v end f = (
    f.0,
    f.1.fits,
    spaced ∙ ap (λ (u : List ℕ). 32 ∷ u) f.1.parts,
    ap (word_at value_at) spaced ∙ value_read (drop behind bytes) v (drop end bytes) f.1,
  )
