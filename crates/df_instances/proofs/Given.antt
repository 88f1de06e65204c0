-- What the choices give is what makes instances and their deliveries.
use Rattle.std.proofs.Common.{◌≡◌, ◌∙◌, ℕ, true, false, List, Option, Some, None, ◌==◌, ◌&&◌, slice_get, get_or, refl, sym, ap, All}
use Rattle.std.proofs.lemmas.Bool.{and_from, eq-eqb}
use Rattle.std.proofs.lemmas.List.Folds.{list_any_at}
use Rattle.df_label.specs.TagSet.{tag_set_eq}
use Rattle.df_label.proofs.TagSetFacts.{tag_set_eq-Decides}
use Rattle.df_local.specs.Births.{record_of}
use Rattle.df_part.specs.Contents.{spared}
use Rattle.df_part.specs.declared.part.Part.{Part}
use Rattle.df_rules.specs.Commits.{contents}
use Rattle.df_rules.specs.Own.{is_given}
use Rattle.df_rules.proofs.CutFacts.{gives_within}
use Rattle.df_unit.specs.declared.commit.Commit.{Commit}
use Rattle.df_unit.specs.declared.entry.Entry.{Entry}
use Rattle.df_instances.specs.Chosen.{AreChosen, HasBase, gives_at, has_instance}
use Rattle.df_instances.specs.declared.instances.Instance.{Instance}
use Rattle.df_instances.specs.declared.subscription.ManagedSubscription.{ManagedSubscription}

-- of a subscription that a journal knows, a commit goes to the instances that it calls for
pub chosen_is_given : (managed : List ManagedSubscription) (past : List Entry) (c : Commit) (instances : List Instance)
    → AreChosen managed (contents past c.event) c.edit instances
    → (k : ℕ) (m : ManagedSubscription) → slice_get managed k ≡ Some m → (t : List (List ℕ))
    → has_instance instances k t ≡ is_given (Some (record_of m.fixed)) t past (Some c)
chosen_is_given managed past c instances are k m at t =
    are k t ∙ ap (λ (o : Option ManagedSubscription). gives_at o t (spared c.edit.0 (contents past c.event)) c.edit.1) at

-- each of the instances that the choices give holds its subscription's base
pub all_based : (managed : List ManagedSubscription) (old added : List Part) (instances : List Instance)
    → ((k : ℕ) (t : List (List ℕ)) → has_instance instances k t ≡ gives_at (slice_get managed k) t old added)
    → All (HasBase managed) instances
all_based managed old added instances are i d l =
    let x = get_or instances i d in
    let here = and_from (x.place == x.place) (tag_set_eq x.s x.s) (eq-eqb x.place x.place refl) ((tag_set_eq-Decides x.s x.s).1 refl) in
    by x (slice_get managed x.place) refl
    (sym (are x.place x.s) ∙ list_any_at (λ (y : Instance). (y.place == x.place) && tag_set_eq y.s x.s) instances i d l here)
  where
    by : (x : Instance) (o : Option ManagedSubscription) → slice_get managed x.place ≡ o → gives_at o x.s old added ≡ true → HasBase managed x
    by x None e h = absurd (let z : ⊥ = cc in z)
    by x (Some m) e h = record {
      subscription = m;
      found = e;
      base = gives_within m.fixed.filter m.fixed.input_integrity x.s m.fixed.base false old added h;
    }
