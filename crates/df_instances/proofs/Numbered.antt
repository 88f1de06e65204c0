-- One more subscription, by owner and number.
use Rattle.std.proofs.Common.{◌≡◌, ◌∙◌, ◌⊎◌, ℕ, zero, suc, Bool, true, false, List, [], ◌∷◌, ◌++◌, Option, Some, None, ◌==◌, if◌then◌else◌, nat_eq, length, slice_get, refl, sym, ap, inl, inr, ⊎_elim}
use Rattle.std.specs.Cmp.Lexicographic.{pointwise}
use Rattle.std.specs.List.{find}
use Rattle.std.specs.Option.{option_map, option_or}
use Rattle.std.proofs.lemmas.Bool.{and_from, both_ways, eq-eqb}
use Rattle.std.proofs.lemmas.List.Folds.{find-append}
use Rattle.std.proofs.lemmas.Slice.Eq.{bytes_eq-Decides}
use Rattle.df_local.specs.Births.{record_of}
use Rattle.df_unit.specs.OwnState.{Fixed}
use Rattle.df_instances.specs.Named.{AreNumbered, is_of, kept_in}
use Rattle.df_instances.specs.declared.subscription.ManagedSubscription.{ManagedSubscription}
use Rattle.df_instances.proofs.Named.{none_passes}

abbrev kept : Option ManagedSubscription → Option Fixed
kept o = option_map (λ (m : ManagedSubscription). record_of m.fixed) o

kept-or : (a b : Option ManagedSubscription) → kept (option_or a b) ≡ option_or (kept a) (kept b)
kept-or None b = refl
kept-or (Some m) b = refl

-- what is kept where one more subscription is enrolled
pub kept_in-push : (managed : List ManagedSubscription) (m : ManagedSubscription) (o : List ℕ) (n : ℕ)
    → kept_in (managed ++ m ∷ []) o n ≡ option_or (kept_in managed o n) (if is_of o n m then Some (record_of m.fixed) else None)
kept_in-push managed m o n =
    ap kept (find-append (is_of o n) managed (m ∷ []))
    ∙ kept-or (find (is_of o n) managed) (find (is_of o n) (m ∷ []))
    ∙ ap (option_or (kept_in managed o n)) (last (is_of o n m))
  where
    last : (b : Bool) → kept (if b then Some m else None) ≡ (if b then Some (record_of m.fixed) else None)
    last true = refl
    last false = refl

-- what is read of a list with one more element
pushed_at : {X : Type 0} (xs : List X) (y : X) (k : ℕ) (x : X) → slice_get (xs ++ y ∷ []) k ≡ Some x → (slice_get xs k ≡ Some x) ⊎ ((k ≡ length xs) × (x ≡ y))
pushed_at [] y zero x e = inr (refl, (let z : x ≡ y = cc in z))
pushed_at [] y (suc k) x e = absurd (let z : ⊥ = cc in z)
pushed_at (z ∷ zs) y zero x e = inl e
pushed_at (z ∷ zs) y (suc k) x e = ⊎_elim (λ a. inl a) (λ b. inr (ap suc b.0, b.1)) (pushed_at zs y k x e)

-- a number that the owner gave to none may be given to one more
pub AreNumbered-push : (managed : List ManagedSubscription) (m : ManagedSubscription) → kept_in managed m.owner m.sub ≡ None
    → AreNumbered managed → AreNumbered (managed ++ m ∷ [])
AreNumbered-push managed m none numbered j k x w here there owner sub =
    ⊎_elim
    (λ old. ⊎_elim
    (λ older. numbered j k x w old older owner sub)
    (λ new. absurd (apart j x old (owner ∙ ap (λ (y : ManagedSubscription). y.owner) new.1) (sub ∙ ap (λ (y : ManagedSubscription). y.sub) new.1)))
    (pushed_at managed m k w there))
    (λ new. ⊎_elim
    (λ old. absurd (apart k w old (sym owner ∙ ap (λ (y : ManagedSubscription). y.owner) new.1) (sym sub ∙ ap (λ (y : ManagedSubscription). y.sub) new.1)))
    (λ newer. new.0 ∙ sym newer.0)
    (pushed_at managed m k w there))
    (pushed_at managed m j x here)
  where
    nothing : (o : Option ManagedSubscription) → kept o ≡ None → o ≡ None
    nothing None e = refl
    nothing (Some y) e = absurd (let z : ⊥ = cc in z)

    apart : (i : ℕ) (y : ManagedSubscription) → slice_get managed i ≡ Some y → y.owner ≡ m.owner → y.sub ≡ m.sub → ⊥
    apart i y at same_owner same_sub =
        both_ways (is_of m.owner m.sub y)
        (none_passes (is_of m.owner m.sub) managed i y (nothing (find (is_of m.owner m.sub) managed) none) at)
        (and_from (pointwise nat_eq y.owner m.owner) (y.sub == m.sub) ((bytes_eq-Decides y.owner m.owner).1 same_owner) (eq-eqb y.sub m.sub same_sub))
