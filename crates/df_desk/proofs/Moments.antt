-- What the rule says of each moment of the desk's table.
use Rattle.std.proofs.Common.{◌≡◌, ℕ, List, length, get_or, sym, refl, ap, ◌∙◌, subst, inl, inr, ⊎_elim, arith, Some}
use mathlib.Core.Logic.{dite}
use mathlib.Core.Option.{none, some, some-injective, some-ne-none}
use mathlib.Core.List.{IsPrefix}
use native.Mathlib.Decide.{ℕ_discrete}
use Rattle.df_desk.specs.declared.view.View.{View}
use Rattle.df_desk.specs.declared.view.View.TheVariants.{Spent, Idle, Joined, Called, Counted}
use Rattle.df_desk.specs.View.{IsOut, seen_list, view_origin}
use Rattle.df_desk.specs.Rule.{Knows, Moment, DeskInvariant}
use Rattle.df_desk.specs.Laws.{HasView, IsHolder, IsInSlot, HasOneHolder, TellsHolder, IsEmptyOnlyWhileHeld, IsDeskList, HasOneList, CountsItsList, HasSeenBeginnings, HasOrigin}
use Rattle.df_desk.proofs.Prefixes.{prefix_refl}

module _ {V O E : Type 0} (origin : V → O) (list : V → List E) (first : V) where
  -- a view that has the value is the holder's, and the first word is 1
  out_is_held : (x : V) (held holder seat : ℕ) (d : View V) → IsOut d → Knows origin list x held holder seat d
      → (seat ≡ holder) × (held ≡ 1)
  out_is_held x held holder seat Spent out h = absurd out
  out_is_held x held holder seat (Idle v) out h = absurd out
  out_is_held x held holder seat (Joined v w) out h = absurd out
  out_is_held x held holder seat (Called v) out h = (h.1, h.2)
  out_is_held x held holder seat (Counted v) out h = (h.1, h.2)

  -- a view that has the value has seen the desk's list
  out_has_seen : (x : V) (held holder seat : ℕ) (d : View V) → IsOut d → Knows origin list x held holder seat d
      → seen_list list d ≡ list x
  out_has_seen x held holder seat Spent out h = absurd out
  out_has_seen x held holder seat (Idle v) out h = absurd out
  out_has_seen x held holder seat (Joined v w) out h = absurd out
  out_has_seen x held holder seat (Called v) out h = ap list h.0
  out_has_seen x held holder seat (Counted v) out h = ap list h.0

  -- each view has seen a beginning of the desk's list
  view_begins : (x : V) (held holder seat : ℕ) (d : View V) → Knows origin list x held holder seat d
      → IsPrefix (seen_list list d) (list x)
  view_begins x held holder seat Spent h = (list x, refl)
  view_begins x held holder seat (Idle v) h = h.1
  view_begins x held holder seat (Joined v w) h = h.0.1
  view_begins x held holder seat (Called v) h = subst (λ (y : V). IsPrefix (list v) (list y)) h.0 (prefix_refl (list v))
  view_begins x held holder seat (Counted v) h = subst (λ (y : V). IsPrefix (list v) (list y)) h.0 (prefix_refl (list v))

  -- each view has the origin of the desk's value
  origin_of_view : (x : V) (held holder seat : ℕ) (d : View V) (p : O) → Knows origin list x held holder seat d
      → view_origin origin d ≡ Some p → p ≡ origin x
  origin_of_view x held holder seat Spent p h e = absurd cc
  origin_of_view x held holder seat (Idle v) p h e = let is : origin v ≡ p = cc (e) in sym is ∙ h.0
  origin_of_view x held holder seat (Joined v w) p h e = let is : origin v ≡ p = cc (e) in sym is ∙ h.0.0
  origin_of_view x held holder seat (Called v) p h e = let is : origin v ≡ p = cc (e) in sym is ∙ ap origin h.0
  origin_of_view x held holder seat (Counted v) p h e = let is : origin v ≡ p = cc (e) in sym is ∙ ap origin h.0

  module _ (s : Moment V) (r : DeskInvariant origin list first s) where
    knows : (seat : ℕ) (view : View V) → HasView s seat view → Knows origin list r.value r.held r.holder seat view
    knows seat view at = r.each_view seat view at

    is_one : (r.held ≡ 0 → ⊥) → r.held ≡ 1
    is_one busy = let f = r.flag in omega arith

    -- a value in the slot is the desk's
    slot_value : (v : V) → IsInSlot s v → v ≡ r.value
    slot_value v at = dite (ℕ_discrete r.held 0)
        (λ free.
        let here : some (Some v) ≡ some (Some r.value) = some-injective (some (Some v)) (some (Some r.value)) (sym at ∙ r.at_home free) in
        let same : Some v ≡ Some r.value = some-injective (Some v) (Some r.value) here in
        cc (same))
        (λ busy. absurd (some-ne-none (Some v) (some-injective (some (Some v)) none (sym at ∙ r.away (is_one busy)))))

    -- the desk's list is that of the desk's value
    desk_list : (xs : List E) → IsDeskList list s xs → list r.value ≡ xs
    desk_list xs is = ⊎_elim (λ (t : (v : V) × IsInSlot s v × (list v ≡ xs)). ap list (sym (slot_value t.0 t.1)) ∙ t.2)
        (λ (t : (seat : ℕ) × (view : View V) × HasView s seat view × IsOut view × (seen_list list view ≡ xs)).
        sym (out_has_seen r.value r.held r.holder t.0 t.1 t.3 (knows t.0 t.1 t.2)) ∙ t.4)
        is

    -- the list of the desk's value is the desk's list
    some_list : IsDeskList list s (list r.value)
    some_list = dite (ℕ_discrete r.held 0) (λ free. inl (r.value, r.at_home free, refl))
        (λ busy. let t = r.out (is_one busy) in inr (r.holder, t.0, t.1, t.2, out_has_seen r.value r.held r.holder r.holder t.0 t.2 (knows r.holder t.0 t.1)))

    -- a seat that has the value is the holder, and the first word is 1
    holder_is : (seat : ℕ) → IsHolder s seat → (seat ≡ r.holder) × (r.held ≡ 1)
    holder_is seat is = out_is_held r.value r.held r.holder seat is.0 is.2 (knows seat is.0 is.1)

    first_word : get_or s.words 0 0 ≡ r.held
    first_word = ap (λ l. get_or l 0 0) r.words

    pub has_one_holder : HasOneHolder s
    has_one_holder i j is is' = (holder_is i is).0 ∙ sym (holder_is j is').0

    pub tells_holder : TellsHolder s
    tells_holder = dite (ℕ_discrete r.held 0)
        (λ free. inr (first_word ∙ free, λ seat is. let one = (holder_is seat is).1 in omega arith))
        (λ busy. let one = is_one busy in inl (first_word ∙ one, (r.holder, r.out one)))

    pub is_empty_only_while_held : IsEmptyOnlyWhileHeld s
    is_empty_only_while_held = dite (ℕ_discrete r.held 0) (λ free. inl (r.value, r.at_home free))
        (λ busy. let one = is_one busy in inr (r.away one, (r.holder, r.out one)))

    pub has_one_list : HasOneList list s
    has_one_list = (list r.value, some_list, λ ys is. sym (desk_list ys is))

    pub counts_its_list : CountsItsList list s
    counts_its_list xs is = ap (λ l. get_or l 1 0) r.words ∙ ap length (desk_list xs is)

    pub has_seen_beginnings : HasSeenBeginnings list s
    has_seen_beginnings xs is seat view at = subst (IsPrefix (seen_list list view)) (desk_list xs is) (view_begins r.value r.held r.holder seat view (knows seat view at))

    pub has_origin : HasOrigin origin (origin first) s
    has_origin = (
      (λ seat view p at is. origin_of_view r.value r.held r.holder seat view p (knows seat view at) is ∙ r.origin_is),
      λ v at. ap origin (slot_value v at) ∙ r.origin_is,
    )
