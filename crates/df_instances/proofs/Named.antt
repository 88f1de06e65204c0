-- The instances to which a commit goes, by their names.
use Rattle.std.proofs.Common.{◌≡◌, ◌∙◌, ℕ, zero, suc, Bool, true, false, List, [], ◌∷◌, Option, Some, None, ◌==◌, ◌&&◌, if◌then◌else◌, nat_eq, get_or, slice_get, refl, sym, ap, subst}
use Rattle.std.specs.Cmp.Lexicographic.{pointwise}
use Rattle.std.specs.List.{find, list_any, position_or_len}
use Rattle.std.specs.Option.{option_map}
use Rattle.std.proofs.lemmas.Bool.{and_left, and_parts, both_ways, eq-eqb, eqb-true, false_from_ne_true, ne_eqb}
use Rattle.std.proofs.lemmas.List.Folds.{find_at, list_any_none}
use Rattle.std.proofs.lemmas.Slice.Eq.{bytes_eq-Decides}
use Rattle.df_local.specs.Births.{record_of}
use Rattle.df_label.specs.TagSet.{tag_set_eq}
use Rattle.df_rules.specs.Commits.{contents}
use Rattle.df_rules.specs.Own.{is_given}
use Rattle.df_unit.specs.declared.commit.Commit.{Commit}
use Rattle.df_unit.specs.declared.entry.Entry.{Entry}
use Rattle.df_unit.specs.declared.name.UnitName.TheVariants.{Managed}
use Rattle.df_instances.specs.Chosen.{AreChosen}
use Rattle.df_instances.specs.Named.{AreNumbered, has_name, is_named_at, is_of, kept_in}
use Rattle.df_instances.specs.declared.instances.Instance.{Instance}
use Rattle.df_instances.specs.declared.subscription.ManagedSubscription.{ManagedSubscription}
use Rattle.df_instances.proofs.Given.{chosen_is_given}

-- what is found passes, and nothing passes where nothing is found
found_passes : {X : Type 0} (test : X → Bool) (xs : List X) (x : X) → find test xs ≡ Some x → test x ≡ true
found_passes test [] x e = absurd (let z : ⊥ = cc in z)
found_passes {X} test (y ∷ ys) x e = by (test y) refl e (λ f. found_passes test ys x f)
  where
    by : (b : Bool) → test y ≡ b → (if b then Some y else find test ys) ≡ Some x → (find test ys ≡ Some x → test x ≡ true) → test x ≡ true
    by true t f later = let same : y ≡ x = cc in subst (λ (z : X). test z ≡ true) same t
    by false t f later = later f

pub none_passes : {X : Type 0} (test : X → Bool) (xs : List X) (k : ℕ) (x : X) → find test xs ≡ None → slice_get xs k ≡ Some x → test x ≡ false
none_passes test [] k x e at = absurd (let z : ⊥ = cc in z)
none_passes {X} test (y ∷ ys) k x e at = by (test y) refl e k at (λ f j here. none_passes test ys j x f here)
  where
    by : (b : Bool) → test y ≡ b → (if b then Some y else find test ys) ≡ None → (k : ℕ) → slice_get (y ∷ ys) k ≡ Some x
        → (find test ys ≡ None → (j : ℕ) → slice_get ys j ≡ Some x → test x ≡ false) → test x ≡ false
    by true t f k at later = absurd (let z : ⊥ = cc in z)
    by false t f zero at later = let same : y ≡ x = cc in subst (λ (z : X). test z ≡ false) same t
    by false t f (suc k) at later = later f k at

regrouped : (p q r : Bool) → (p && (q && r)) ≡ ((p && q) && r)
regrouped true q r = refl
regrouped false q r = refl

-- a subscription that is the owner's with this number is the one that is found
module _ (managed : List ManagedSubscription) (numbered : AreNumbered managed) (o : List ℕ) (n k : ℕ) (m : ManagedSubscription)
    (at : slice_get managed k ≡ Some m) (of : is_of o n m ≡ true) where
  one_subscription : (j : ℕ) (w : ManagedSubscription) → slice_get managed j ≡ Some w → is_of o n w ≡ true → j ≡ k
  one_subscription j w here h =
      let a = and_parts (pointwise nat_eq w.owner o) (w.sub == n) h in
      let b = and_parts (pointwise nat_eq m.owner o) (m.sub == n) of in
      numbered j k w m here at
      ((bytes_eq-Decides w.owner o).0 a.0 ∙ sym ((bytes_eq-Decides m.owner o).0 b.0))
      (eqb-true w.sub n a.1 ∙ sym (eqb-true m.sub n b.1))

  of_is : (j : ℕ) (w : ManagedSubscription) → slice_get managed j ≡ Some w → is_of o n w ≡ (j == k)
  of_is j w here = by (j == k) refl
    where
      by : (b : Bool) → (j == k) ≡ b → is_of o n w ≡ b
      by true e =
          let same : Some m ≡ Some w = sym at ∙ ap (slice_get managed) (sym (eqb-true j k e)) ∙ here in
          subst (λ (z : ManagedSubscription). is_of o n z ≡ true) (let z : m ≡ w = cc in z) of
      by false e = false_from_ne_true (is_of o n w) (λ h. both_ways (j == k) e (eq-eqb j k (one_subscription j w here h)))

  named_is : (t : List (List ℕ)) (j : ℕ) (s : List (List ℕ)) (w : Option ManagedSubscription) → slice_get managed j ≡ w
      → is_named_at w s (Managed o n t) ≡ ((j == k) && tag_set_eq s t)
  named_is t j s None here =
      let apart : j ≡ k → ⊥ = λ e. let z : None ≡ Some m = sym here ∙ ap (slice_get managed) e ∙ at in (let w : ⊥ = cc in w) in
      sym (and_left (j == k) (tag_set_eq s t) (ne_eqb j k apart))
  named_is t j s (Some w) here =
      regrouped (pointwise nat_eq w.owner o) (w.sub == n) (tag_set_eq s t) ∙ ap (λ (b : Bool). b && tag_set_eq s t) (of_is j w here)

unnamed : (managed : List ManagedSubscription) (o : List ℕ) (n : ℕ) → find (is_of o n) managed ≡ None
    → (t : List (List ℕ)) (j : ℕ) (s : List (List ℕ)) (w : Option ManagedSubscription) → slice_get managed j ≡ w → is_named_at w s (Managed o n t) ≡ false
unnamed managed o n e t j s None here = refl
unnamed managed o n e t j s (Some w) here =
    regrouped (pointwise nat_eq w.owner o) (w.sub == n) (tag_set_eq s t)
    ∙ and_left (is_of o n w) (tag_set_eq s t) (none_passes (is_of o n) managed j w e here)

-- a commit goes to an instance exactly where it calls for it
pub chosen_by_name : (managed : List ManagedSubscription) → AreNumbered managed → (past : List Entry) (c : Commit) (instances : List Instance)
    → AreChosen managed (contents past c.event) c.edit instances
    → (o : List ℕ) (n : ℕ) (t : List (List ℕ)) → has_name managed instances (Managed o n t) ≡ is_given (kept_in managed o n) t past (Some c)
chosen_by_name managed numbered past c instances are o n t = by (find (is_of o n) managed) refl
  where
    given : Option ManagedSubscription → Bool
    given f = is_given (option_map (λ (m : ManagedSubscription). record_of m.fixed) f) t past (Some c)

    by : (f : Option ManagedSubscription) → find (is_of o n) managed ≡ f → has_name managed instances (Managed o n t) ≡ given (find (is_of o n) managed)
    by None e =
        list_any_none (λ (x : Instance). is_named_at (slice_get managed x.place) x.s (Managed o n t)) instances
        (λ i d l. unnamed managed o n e t (get_or instances i d).place (get_or instances i d).s (slice_get managed (get_or instances i d).place) refl)
        ∙ ap given (sym e)
    by (Some m) e =
        let k = position_or_len (is_of o n) managed in
        let at = sym (find_at (is_of o n) managed) ∙ e in
        let named : (x : Instance) → is_named_at (slice_get managed x.place) x.s (Managed o n t) ≡ ((x.place == k) && tag_set_eq x.s t) =
        λ x. named_is managed numbered o n k m at (found_passes (is_of o n) managed m e) t x.place x.s (slice_get managed x.place) refl in
        (λ i. list_any (λ x. named x i) instances) ∙ chosen_is_given managed past c instances are k m at t ∙ ap given (sym e)
