-- What a change of one place does to the handles that the places show.
use Rattle.df_handles.proofs.Names.{◌≡◌, ℕ, ◌+◌, ◌<◌, ◌≤◌, Option, Some, None, List, [], ◌∷◌, ◌++◌, length, take, set, get_or, add-one, refl, ap, sym, ◌∙◌, arith, length-map, map-append, map-set, get_or-map, Handle, least_free, opened, replaced, changed_at, shown, all_shown}
use Rattle.std.specs.Option.{option_map}
use Rattle.std.proofs.Math.Seq.{map-set_same, take-suc}
use Rattle.df_handles.specs.declared.slot.Slot.{Slot}
use Rattle.df_handles.proofs.OpenHandles.{opened_in, opened_end, none_kept, changed_at-open}

-- a place that shows what it showed changes nothing
pub kept_shown : (slots : List Slot) (h : ℕ) (s t : Slot) → s ≡ get_or slots h s → shown t ≡ shown s → all_shown (set slots h t) ≡ all_shown slots
kept_shown slots h s t e is = map-set_same shown slots h t s (is ∙ ap shown e)

-- a place whose handle changed changes that handle
pub changed_shown : (slots : List Slot) (h : ℕ) (s t : Slot) (f : Handle → Handle) → h < length slots → s ≡ get_or slots h s → shown t ≡ option_map f (shown s) → all_shown (set slots h t) ≡ changed_at (all_shown slots) h f
changed_shown slots h s t f k e is = map-set shown slots h t ∙ by_case (shown s) refl is
  where
    within : h < length (all_shown slots)
    within = omega (arith, length-map slots shown)

    there : (o : Option Handle) → o ≡ shown s → o ≡ get_or (all_shown slots) h None
    there o p = p ∙ ap shown e ∙ sym (get_or-map shown slots h s None k)

    by_case : (o : Option Handle) → o ≡ shown s → shown t ≡ option_map f o → set (all_shown slots) h (shown t) ≡ changed_at (all_shown slots) h f
    by_case None p q =
        let kept = none_kept (all_shown slots) h within (there None p) in
        ap (set (all_shown slots) h) q ∙ kept.0 ∙ ap (replaced (all_shown slots) h f) (sym kept.1)
    by_case (Some x) p q = ap (set (all_shown slots) h) q ∙ changed_at-open (all_shown slots) h None x (f x) f within (there (Some x) p) refl

-- a free place in which a handle is opened
pub opened_shown : (slots : List Slot) (h : ℕ) (t : Slot) (d : Handle) → h ≡ least_free (all_shown slots) → h < length slots → shown t ≡ Some d → all_shown (set slots h t) ≡ opened d (all_shown slots)
opened_shown slots h t d e k is =
    map-set shown slots h t ∙ (λ i. set (all_shown slots) (e i) (is i))
    ∙ opened_in d (all_shown slots) (omega (arith, e, length-map slots shown))

-- where no place is free, one more has the handle
pub opened_pushed : (slots : List Slot) (t : Slot) (d : Handle) → length slots ≤ least_free (all_shown slots) → shown t ≡ Some d → all_shown (slots ++ t ∷ []) ≡ opened d (all_shown slots)
opened_pushed slots t d k is =
    map-append shown slots (t ∷ []) ∙ ap (λ (o : Option Handle). all_shown slots ++ o ∷ []) is
    ∙ opened_end d (all_shown slots) (omega (arith, k, length-map slots shown))

module _ (ls rs : List Slot) (i : ℕ) (a b : Slot) (h : i < length ls) (k : i < length rs) (x : a ≡ get_or ls i a) (y : b ≡ get_or rs i b) where
  at_left : get_or (all_shown ls) i None ≡ shown a
  at_left = get_or-map shown ls i a None h ∙ sym (ap shown x)

  at_right : get_or (all_shown rs) i None ≡ shown b
  at_right = get_or-map shown rs i b None k ∙ sym (ap shown y)

  -- places that show the same show the same at each number
  pub shown_at : all_shown ls ≡ all_shown rs → shown a ≡ shown b
  shown_at e = sym at_left ∙ ap (λ l. get_or l i None) e ∙ at_right

  -- one more place on either side
  pub shown_more : shown a ≡ shown b → take i (all_shown ls) ≡ take i (all_shown rs) → take (i + 1) (all_shown ls) ≡ take (i + 1) (all_shown rs)
  shown_more e same =
      rw (add-one i) (take-suc (all_shown ls) i None (omega (arith, length-map ls shown))
      ∙ (λ j. same j ++ (at_left ∙ e ∙ sym at_right) j ∷ [])
      ∙ sym (take-suc (all_shown rs) i None (omega (arith, length-map rs shown))))
