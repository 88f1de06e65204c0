-- The rows of the call table keep what is promised of emitted commits.
use Rattle.df_rules.proofs.Names.{inl, inr, ◌≡◌, ◌⊎◌, ℕ, List, [], ◌∷◌, Bool, true, false, not, ◌&&◌, refl, sym, subst, cond, Option, Some, None, ⊤, list_all, flows_to, contains, is_subset, with, Label, Privilege, Spot, Part, Act, Add, Del, Half, ReleaseLaws, IsChange, rows, roots, and_from, flows_to-join_right, begin, raised, relabelled, Handle, handle_at, holds, IsKept, OwnState, reply, effect, after, changed, taken_in, is_accepted, is_instance, where_held, published, released, unwritable, refused_write, at_handle, first_given, is_nil, Call, Get, Publish, Release, ChangeOutLabel, ChangeInOut, Commit, Given, Effect, UnitName, Reply}
use Rattle.df_rules.proofs.RowLaws.{first_is, second_is, roots_are, by_fixed, by_child}
use Rattle.df_priv.specs.Needed.{needed}
use Rattle.df_unit.proofs.KeptRows.{kept_root, kept_after, kept_begin, kept_child}
use Rattle.df_unit.proofs.Members.{added_or_had}

-- what is dropped and endorsed

change_of : (st : OwnState) (half : Half) (act : Act) (t : List ℕ) (c : Call) (r : Reply) → (c ≡ ChangeOutLabel half act t) ⊎ (c ≡ ChangeInOut half act t) → where_held st (needed act t) Reply.Ok ≡ r → is_accepted r ≡ true → IsChange rows st half act t c r
change_of st half act t c r asked e ok = go (holds st.held (needed act t)) refl e
  where
    go : (b : Bool) → holds st.held (needed act t) ≡ b → cond b Reply.Ok (Reply.Lacks (needed act t)) ≡ r → IsChange rows st half act t c r
    go true h e = record { asked = asked; accepted = sym e; held = h }
    go false h e = let z : false ≡ true = subst (λ (r : Reply). is_accepted r ≡ true) (sym e) ok in absurd (let y : ⊥ = cc in y)

plain_change : (u : UnitName) (st : OwnState) (half : Half) (act : Act) (t : List ℕ) (c : Call) (r : Reply) → (c ≡ ChangeOutLabel half act t) ⊎ (c ≡ ChangeInOut half act t) → cond (is_instance u) Reply.NotInManaged (where_held st (needed act t) Reply.Ok) ≡ r → is_accepted r ≡ true → IsChange rows st half act t c r
plain_change u st half act t c r asked e ok = go (is_instance u) e
  where
    go : (b : Bool) → cond b Reply.NotInManaged (where_held st (needed act t) Reply.Ok) ≡ r → IsChange rows st half act t c r
    go true e = let z : false ≡ true = subst (λ (r : Reply). is_accepted r ≡ true) (sym e) ok in absurd (let y : ⊥ = cc in y)
    go false e = change_of st half act t c r asked e ok

accepted_or : (P : OwnState → Type 0) (b : Bool) (a st : OwnState) → P (cond b a st) → ((b ≡ true) × P a) ⊎ P st
accepted_or P true a st h = inl (refl, h)
accepted_or P false a st h = inr h

-- a call that leaves a set as it was has put nothing into it
side_same : (side : OwnState → List (List ℕ)) (b : Bool) (a st : OwnState) (y : List ℕ) → side a ≡ side st → contains (side (cond b a st)) y ≡ true → contains (side st) y ≡ true
side_same side true a st y e h = subst (λ (xs : List (List ℕ)). contains xs y ≡ true) e h
side_same side false a st y e h = h

-- a tag that is newly set aside is the one of the change
newly_dropped : (xs : List (List ℕ)) (b : Bool) (t y : List ℕ) → contains (cond b (with xs t) xs) y ≡ true → (contains xs y ≡ true) ⊎ (t ≡ y)
newly_dropped xs true t y h = elim (added_or_had xs t y h) [ inl e ↦ inr e | inr m ↦ inl m ]
newly_dropped xs false t y h = inl h

newly_endorsed : (xs : List (List ℕ)) (b : Bool) (t y : List ℕ) → contains (cond b xs (with xs t)) y ≡ true → (contains xs y ≡ true) ⊎ (t ≡ y)
newly_endorsed xs true t y h = inl h
newly_endorsed xs false t y h = elim (added_or_had xs t y h) [ inl e ↦ inr e | inr m ↦ inl m ]

dropped_after : (u : UnitName) (st : OwnState) (ds : List Given) (c : Call) (r : Reply) (f : Effect) (y : List ℕ) → rows.answer u st ds c ≡ (r, f) → contains (after u st c r f).dropped y ≡ true → (contains st.dropped y ≡ true) ⊎ IsChange rows st Half.S Del y c r
dropped_after u st ds (ChangeOutLabel Half.S Del t) r f y e h =
    elim (accepted_or (λ a. contains a.dropped y ≡ true) (is_accepted r) (changed u st (ChangeOutLabel Half.S Del t) f) st h) [
      | inl k ↦ elim (newly_dropped st.dropped (contains st.output.s t) t y k.1) [
        | inl m ↦ inl m
        | inr same ↦ inr (subst (λ (z : List ℕ). IsChange rows st Half.S Del z (ChangeOutLabel Half.S Del t) r) same
            (change_of st Half.S Del t (ChangeOutLabel Half.S Del t) r (inl refl) (first_is (reply u st ds (ChangeOutLabel Half.S Del t)) r (effect u st ds (ChangeOutLabel Half.S Del t)) f e) k.0))
      ]
      | inr m ↦ inl m
    ]
dropped_after u st ds (ChangeInOut Half.S Del t) r f y e h =
    elim (accepted_or (λ a. contains a.dropped y ≡ true) (is_accepted r) (changed u st (ChangeInOut Half.S Del t) f) st h) [
      | inl k ↦ elim (newly_dropped st.dropped (contains st.output.s t) t y k.1) [
        | inl m ↦ inl m
        | inr same ↦ inr (subst (λ (z : List ℕ). IsChange rows st Half.S Del z (ChangeInOut Half.S Del t) r) same
            (plain_change u st Half.S Del t (ChangeInOut Half.S Del t) r (inr refl) (first_is (reply u st ds (ChangeInOut Half.S Del t)) r (effect u st ds (ChangeInOut Half.S Del t)) f e) k.0))
      ]
      | inr m ↦ inl m
    ]
dropped_after u st ds Get r Effect.Nothing y e h = inl (side_same (λ st. st.dropped) (is_accepted r) st st y refl h)
dropped_after u st ds Get r (Effect.Commit k) y e h = inl (side_same (λ st. st.dropped) (is_accepted r) st st y refl h)
dropped_after u st ds Get r (Effect.Given d) y e h = inl (side_same (λ st. st.dropped) (is_accepted r) (taken_in (Effect.Given d) st) st y refl h)
dropped_after u st ds c r f y e h = inl (side_same (λ st. st.dropped) (is_accepted r) (changed u st c f) st y refl h)

endorsed_after : (u : UnitName) (st : OwnState) (ds : List Given) (c : Call) (r : Reply) (f : Effect) (y : List ℕ) → rows.answer u st ds c ≡ (r, f) → contains (after u st c r f).endorsed y ≡ true → (contains st.endorsed y ≡ true) ⊎ IsChange rows st Half.I Add y c r
endorsed_after u st ds (ChangeOutLabel Half.I Add t) r f y e h =
    elim (accepted_or (λ a. contains a.endorsed y ≡ true) (is_accepted r) (changed u st (ChangeOutLabel Half.I Add t) f) st h) [
      | inl k ↦ elim (newly_endorsed st.endorsed (contains st.output.i t) t y k.1) [
        | inl m ↦ inl m
        | inr same ↦ inr (subst (λ (z : List ℕ). IsChange rows st Half.I Add z (ChangeOutLabel Half.I Add t) r) same
            (change_of st Half.I Add t (ChangeOutLabel Half.I Add t) r (inl refl) (first_is (reply u st ds (ChangeOutLabel Half.I Add t)) r (effect u st ds (ChangeOutLabel Half.I Add t)) f e) k.0))
      ]
      | inr m ↦ inl m
    ]
endorsed_after u st ds (ChangeInOut Half.I Add t) r f y e h =
    elim (accepted_or (λ a. contains a.endorsed y ≡ true) (is_accepted r) (changed u st (ChangeInOut Half.I Add t) f) st h) [
      | inl k ↦ elim (newly_endorsed st.endorsed (contains st.output.i t) t y k.1) [
        | inl m ↦ inl m
        | inr same ↦ inr (subst (λ (z : List ℕ). IsChange rows st Half.I Add z (ChangeInOut Half.I Add t) r) same
            (plain_change u st Half.I Add t (ChangeInOut Half.I Add t) r (inr refl) (first_is (reply u st ds (ChangeInOut Half.I Add t)) r (effect u st ds (ChangeInOut Half.I Add t)) f e) k.0))
      ]
      | inr m ↦ inl m
    ]
endorsed_after u st ds Get r Effect.Nothing y e h = inl (side_same (λ st. st.endorsed) (is_accepted r) st st y refl h)
endorsed_after u st ds Get r (Effect.Commit k) y e h = inl (side_same (λ st. st.endorsed) (is_accepted r) st st y refl h)
endorsed_after u st ds Get r (Effect.Given d) y e h = inl (side_same (λ st. st.endorsed) (is_accepted r) (taken_in (Effect.Given d) st) st y refl h)
endorsed_after u st ds c r f y e h = inl (side_same (λ st. st.endorsed) (is_accepted r) (changed u st c f) st y refl h)

-- what a commit writes

flows_raised : (out l : Label) → flows_to out (raised out l) ≡ true
flows_raised out l = flows_to-join_right l out

relabelled_flows : (out : Label) (parts : List Part) → list_all (λ part. flows_to out part.label) (relabelled out parts) ≡ true
relabelled_flows out [] = refl
relabelled_flows out (p ∷ ps) = and_from (flows_to out (raised out p.label)) (list_all (λ part. flows_to out part.label) (relabelled out ps)) (flows_raised out p.label) (relabelled_flows out ps)

writable_flows : (out : Label) (ds : List Spot) → unwritable out ds ≡ None → list_all (λ d. flows_to out d.label) ds ≡ true
writable_flows out [] h = refl
writable_flows out (d ∷ ds) h = go (flows_to out d.label) refl h (writable_flows out ds)
  where
    go : (b : Bool) → flows_to out d.label ≡ b → cond (not b) (Some d) (unwritable out ds) ≡ None → (unwritable out ds ≡ None → list_all (λ d. flows_to out d.label) ds ≡ true) → (flows_to out d.label && list_all (λ d. flows_to out d.label) ds) ≡ true
    go true e h ih = and_from (flows_to out d.label) (list_all (λ d. flows_to out d.label) ds) e (ih h)
    go false e h ih = absurd (let z : ⊥ = cc in z)

-- both facts of a commit
Writes : Label → Effect → Type 0
Writes out Effect.Nothing = ⊤
Writes out (Effect.Given d) = ⊤
Writes out (Effect.Commit k) = (list_all (λ part. flows_to out part.label) k.edit.1 ≡ true) × (list_all (λ d. flows_to out d.label) k.edit.0 ≡ true)

published_writes : (st : OwnState) (o : Option Handle) → Writes st.output (published st o)
unfolding Writes
published_writes st None = tt
published_writes st (Some d) = (relabelled_flows st.output d.drafted, refl)

released_writes : (st : OwnState) (o : Option Handle) → is_accepted (at_handle o (λ d. cond (not d.is_view) Reply.NotReceived (refused_write st.output (unwritable st.output d.named)))) ≡ true → Writes st.output (released st o)
unfolding Writes
released_writes st None h = tt
released_writes st (Some d) h = go (is_nil d.named && is_nil d.drafted)
  where
    all_writable : (o : Option Spot) → is_accepted (refused_write st.output o) ≡ true → o ≡ None
    all_writable None h = refl
    all_writable (Some x) h = absurd (let z : ⊥ = cc in z)

    named : (b : Bool) → is_accepted (cond b Reply.NotReceived (refused_write st.output (unwritable st.output d.named))) ≡ true → unwritable st.output d.named ≡ None
    named true h = absurd (let z : ⊥ = cc in z)
    named false h = all_writable (unwritable st.output d.named) h

    go : (b : Bool) → Writes st.output (cond b Effect.Nothing (Effect.Commit (record { event = d.event; edit = (d.named, relabelled st.output d.drafted) })))
    go true = tt
    go false = (relabelled_flows st.output d.drafted, writable_flows st.output d.named (named (not d.is_view) h))

effect_writes : (u : UnitName) (st : OwnState) (ds : List Given) (c : Call) → Writes st.output (effect u st ds c)
unfolding Writes
effect_writes u st ds Get = go (is_accepted (reply u st ds Get)) ds
  where
    go : (b : Bool) (ds : List Given) → Writes st.output (cond b (first_given ds) Effect.Nothing)
    go true [] = tt
    go true (d ∷ ds) = tt
    go false ds = tt
effect_writes u st ds (Publish h) = go (is_accepted (reply u st ds (Publish h)))
  where
    go : (b : Bool) → Writes st.output (cond b (published st (handle_at st.handles h)) Effect.Nothing)
    go true = published_writes st (handle_at st.handles h)
    go false = tt
effect_writes u st ds (Release h) = go (is_accepted (reply u st ds (Release h))) refl
  where
    go : (b : Bool) → is_accepted (reply u st ds (Release h)) ≡ b → Writes st.output (cond b (released st (handle_at st.handles h)) Effect.Nothing)
    go true e = released_writes st (handle_at st.handles h) e
    go false e = tt
effect_writes u st ds _ = tt

answer_writes : (u : UnitName) (st : OwnState) (ds : List Given) (c : Call) (r : Reply) (k : Commit) → rows.answer u st ds c ≡ (r, Effect.Commit k) → Writes st.output (Effect.Commit k)
answer_writes u st ds c r k h = subst (Writes st.output) (second_is (reply u st ds c) r (effect u st ds c) (Effect.Commit k) h) (effect_writes u st ds c)

pub row_release_laws : (start : List (Label × List Privilege)) → ReleaseLaws rows (roots start)
unfolding Writes
row_release_laws start = record {
  added = λ u st ds c r k h. (answer_writes u st ds c r k h).0;
  deleted = λ u st ds c r k h. (answer_writes u st ds c r k h).1;
  kept_first = λ k st e. roots_are IsKept (λ r. kept_root r.0 r.1) start k st e;
  kept_after = kept_after;
  kept_begin = λ st n c r f t h k. by_fixed (λ f. is_subset f.base t ≡ true → IsKept (begin f t)) st n c r f h (λ filter. kept_begin st filter t k);
  kept_makes = λ st n c r ch h k. by_child IsKept st n c r ch h (λ s privileges. kept_child st s privileges k);
  none_first = λ k st e. roots_are (λ st. (st.dropped ≡ []) × (st.endorsed ≡ [])) (λ r. (refl, refl)) start k st e;
  dropped_after = dropped_after;
  endorsed_after = endorsed_after;
  fixes_dropped = λ st n c r f t h. by_fixed (λ f. (begin f t).dropped ≡ st.dropped) st n c r f h (λ filter. refl);
  fixes_endorsed = λ st n c r f t h. by_fixed (λ f. (begin f t).endorsed ≡ st.endorsed) st n c r f h (λ filter. refl);
  makes_dropped = λ st k c r ch h. by_child (λ ch. ch.dropped ≡ st.dropped) st k c r ch h (λ s privileges. refl);
  makes_endorsed = λ st k c r ch h. by_child (λ ch. ch.endorsed ≡ st.endorsed) st k c r ch h (λ s privileges. refl);
}
