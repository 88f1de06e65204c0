-- The loops that read numbers and tags, step by step.
use Rattle.df_value_text.proofs.Names.{◌≡◌, ℕ, ◌+◌, ◌-◌, ◌<◌, ◌≤◌, ◌^◌, true, false, List, [], ◌∷◌, ◌++◌, length, get_or, drop, take, Some, Ok, Err, Bool, None, cond, refl, sym, ap, ◌∙◌, arith, AllByRecursion, Read, as_at, items_at, begins_with, leads_number, tag_at, next_at, leads_tag, listed, optional, some_tags_at, tags_at, AreTags, IsTag, tag_cmp, tags_text, All, get_or-append_seam, IsAscending, leads_at}
use Rattle.std.proofs.lemmas.List.{length_push}
use Rattle.std.proofs.lemmas.List.Elements.{All-from_recursion}
use Rattle.df_label.specs.Spelling.{AreShort}
use Rattle.df_value_text.proofs.TagSetLaws.{tags_format}
use Rattle.df_value_text.proofs.Loops.{LedTo, between_places, drop_first}
pub use Rattle.df_value_text.proofs.Loops.{behind_it}

-- a dot and a digit lead to a number
pub number_led : (last : ℕ) (bytes : List ℕ) (place : ℕ) → leads_at (drop place bytes) ≡ true → LedTo leads_number last bytes place
number_led last bytes place h = by (drop place bytes) refl h
  where
    by : (d : List ℕ) → drop place bytes ≡ d → leads_at d ≡ true → LedTo leads_number last bytes place
    by [] e h = absurd cc
    by (c ∷ cs) e h =
        let t = drop_first bytes place c cs e in
        record { first = c; is = e ∙ ap (λ (u : List ℕ). c ∷ u) t.1; leads_on = ap (leads_number last c) (sym t.1) ∙ h }

pub no_number : (text : List ℕ) → leads_at text ≡ false → (c : ℕ) (cs : List ℕ) → text ≡ c ∷ cs → leads_number 0 c cs ≡ false
no_number text h c cs is = ap leads_at (sym is) ∙ h

pub last_is : (tags before : List (List ℕ)) (last d : List ℕ) (i : ℕ) → i + 1 ≡ length tags → tags ≡ before ++ last ∷ [] → get_or tags i d ≡ last
last_is tags before last d i n e =
    let here : i ≡ length before = omega (arith, n, ap length e, length_push before last) in
    ap (λ (k : ℕ). get_or tags k d) here ∙ ap (λ (ts : List (List ℕ)). get_or ts (length before) d) e ∙ get_or-append_seam before last [] d

-- a set begins with a tag, or has none
some_listed : (r : Read ℕ (List ℕ × List (List ℕ)))
    → as_at optional (as_at (λ (x : List ℕ × List (List ℕ)). Some x) (λ (u : List ℕ). r)) [] ≡ as_at listed (λ (u : List ℕ). r) []
some_listed (Ok x) = refl
some_listed (Err s) = refl

pub some_tags : (bytes : List ℕ) → begins_with 35 bytes ≡ true → tags_at bytes ≡ some_tags_at bytes
some_tags [] h = absurd cc
some_tags (c ∷ cs) h =
    let r : Read ℕ (List ℕ × List (List ℕ)) = items_at leads_tag tag_at next_at (c ∷ cs) in
    ap (λ (b : Bool). as_at optional (λ (t : List ℕ). cond b (as_at (λ (x : List ℕ × List (List ℕ)). Some x) (λ (u : List ℕ). r) t) (Ok (None, c ∷ cs))) []) h
    ∙ some_listed r

-- ---- a set's bytes

tag_short : (tag : List ℕ) → IsTag tag → AreShort tag
tag_short [] fits = absurd fits
tag_short (n ∷ ns) fits = All-from_recursion (λ n. n < 2 ^ 32) (n ∷ ns) fits

tags_short : (tags : List (List ℕ)) → AreTags tags → AllByRecursion AreShort tags
tags_short [] fits = tt
tags_short (tag ∷ tags) fits = (tag_short tag fits.0, tags_short tags fits.1)

-- a set that is read: its spelling stands between the places
pub record SetRead (bytes : List ℕ) (at place : ℕ) (tags : List (List ℕ)) : Type 0 where
  pub onward : at ≤ place
  pub spelled : take (place - at) (drop at bytes) ≡ tags_text tags
  pub ascending : IsAscending tag_cmp tags
  pub short : All AreShort tags

pub set_read : (bytes : List ℕ) (at place : ℕ) (tags : List (List ℕ)) → at ≤ length bytes → place ≤ length bytes → begins_with 35 (drop at bytes) ≡ true
    → some_tags_at (drop at bytes) ≡ Ok (tags, drop place bytes) → SetRead bytes at place tags
set_read bytes at place tags start end h e =
    let found = tags_format.found (drop at bytes) tags (drop place bytes) (some_tags (drop at bytes) h ∙ e) in
    let between = between_places bytes (tags_text tags) at place start end found.parts in
    record {
      onward = between.0;
      spelled = between.1;
      ascending = found.fits.1;
      short = All-from_recursion AreShort tags (tags_short tags found.fits.0);
    }
