-- A tag that isn't above the one before it is refused at its first byte.
use Rattle.df_value_text.proofs.Names.{◌≡◌, ℕ, List, [], ◌∷◌, ◌++◌, Ok, Err, refl, sym, ap, ◌∙◌, append_assoc, inl, inr, Low, items_at, longest_read, tag_text, tags_text, IsTagSet, StandsLow, tag_at, next_at, leads_tag, tags_at, label_at, LowInLabel}
use Rattle.df_value_text.proofs.PathLaws.{long_whole}
use Rattle.df_value_text.proofs.TagLaws.{nowhere, nowhere_is_local, joined_items, tag_format}
use Rattle.df_value_text.proofs.TagSetLaws.{tags_parts, follow_tags, tags_format}
use Rattle.df_value_text.proofs.LabelLaws.{tags_end_at}
use Rattle.df_value_text.proofs.EntryLaws.{led, items_led}
use Rattle.df_value_text.proofs.LowLaws.{last_same, items_stopped}

next_low : (prev rest : List ℕ) → StandsLow prev rest → next_at prev rest ≡ Err (Low rest)
next_low prev rest s = rw (longest_read long_whole rest s.tag s.more s.longest, s.low) refl

set_low : (tag : List ℕ) (tags before : List (List ℕ)) (prev rest : List ℕ) → tag ∷ tags ≡ before ++ prev ∷ [] → IsTagSet (tag ∷ tags) → StandsLow prev rest
    → tags_at (tags_text (tag ∷ tags) ++ (44 ∷ rest)) ≡ Err (Low rest)
set_low tag tags before prev rest is fits s =
    let low : items_at leads_tag tag_at next_at (led tag_text (tag ∷ tags) ++ rest) ≡ Err (Low rest) = items_stopped tags_parts nowhere tag_at
    (tag_format nowhere nowhere_is_local) (tag ∷ tags) rest (Low rest) (fits.0.0, follow_tags tag tags fits.0.1 fits.1)
    (λ none. absurd (let no : tag ∷ tags ≡ [] = none in cc))
    (λ front last e h. (refl, ap (λ (t : List ℕ). next_at t rest) (last_same front before last prev (sym e ∙ is)) ∙ next_low prev rest s)) in
    ap (λ (u : List ℕ). tags_at (u ++ (44 ∷ rest))) (joined_items 44 tag_text tag tags) ∙ ap tags_at (items_led tag_text tag tags rest) ∙ rw low refl

pub tags_low : (tags : List (List ℕ)) (prev rest : List ℕ) → IsTagSet (tags ++ prev ∷ []) → StandsLow prev rest
    → tags_at (tags_text (tags ++ prev ∷ []) ++ (44 ∷ rest)) ≡ Err (Low rest)
tags_low [] prev rest fits s = set_low prev [] [] prev rest refl fits s
tags_low (tag ∷ tags) prev rest fits s = set_low tag (tags ++ prev ∷ []) (tag ∷ tags) prev rest refl fits s

pub label_low : (bytes rest : List ℕ) → LowInLabel bytes rest → label_at bytes ≡ Err (Low rest)
label_low bytes rest (inl l) = ap label_at l.is ∙ rw (tags_low l.tags l.prev rest l.set l.low) refl
label_low bytes rest (inr l) =
    let behind : List ℕ = tags_text (l.2.tags ++ l.2.prev ∷ []) ++ (44 ∷ rest) in
    let regrouped : (tags_text l.0 ++ 124 ∷ []) ++ behind ≡ tags_text l.0 ++ (124 ∷ behind) = append_assoc (tags_text l.0) (124 ∷ []) behind in
    let one : tags_at (tags_text l.0 ++ (124 ∷ behind)) ≡ Ok (l.0, 124 ∷ behind) = tags_format.again l.0 (124 ∷ behind) l.1
    (tags_end_at l.0 124 refl refl refl refl) in
    ap label_at l.2.is ∙ ap (λ (u : List ℕ). label_at (123 ∷ u)) regrouped ∙ rw (one, tags_low l.2.tags l.2.prev rest l.2.set l.2.low) refl
