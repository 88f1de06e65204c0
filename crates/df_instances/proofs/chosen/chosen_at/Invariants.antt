use Rattle.std.proofs.Common.{◌≡◌, ◌&&◌, ◌++◌, ℕ, List, All, slice_get, take, true}
use Rattle.std.specs.List.Sorted.{IsStrictlySortedBy}
use Rattle.df_part.specs.declared.part.Part.{Part}
use Rattle.df_instances.specs.Chosen.{gives_at, has_instance, instance_cmp}
use Rattle.df_instances.specs.Marks.{has_place}
use Rattle.df_instances.proofs.chosen.chosen_at.Given as goal

abbrev pub invariant-loop-place : goal.invariant-loop-place
invariant-loop-place l = record {
  given : (old : List Part) → l.contents ≡ old ++ l.edit.1 → (k : ℕ) (t : List (List ℕ)) → has_instance l.found.items k t
      ≡ (has_place (take l.place-index l.places) k && gives_at (slice_get l.subscriptions k) t old l.edit.1);
  among : All (λ x. has_place (take l.place-index l.places) x.place ≡ true) l.found.items;
  ascending : IsStrictlySortedBy instance_cmp l.found.items;
}
