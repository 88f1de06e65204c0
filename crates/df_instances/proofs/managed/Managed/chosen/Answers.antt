use Rattle.std.proofs.Common.{◌≡◌, ◌∙◌, ◌++◌, ◌&&◌, List, ℕ, Bool, ap, slice_get}
use Rattle.df_index.specs.Listing.{names_of}
use Rattle.df_part.specs.Contents.{spared}
use Rattle.df_part.specs.declared.part.Part.{Part}
use Rattle.df_instances.specs.Chosen.{gives_at, has_instance}
use Rattle.df_instances.specs.Marks.{has_place}
use Rattle.df_instances.specs.code.Listing.{is_listed_at}
use Rattle.df_instances.specs.declared.instances.Instance.{Instance}
use Rattle.df_instances.specs.declared.subscription.ManagedSubscription.{ManagedSubscription}
use Rattle.df_instances.proofs.Given.{all_based}
use Rattle.df_instances.proofs.Looked.{listed_where_given, places_within}
use Rattle.df_instances.proofs.managed.Managed.chosen.Goals as goal

pub chosen_at-requires-clause-within : goal.chosen_at-requires-clause-within
chosen_at-requires-clause-within c =
    rw (c.as_slice.ensures.value, c.as_slice-subscriptions.ensures.list)
    (places_within (names_of c.args.contents.now) c.args.self.now c.in_ok-places.places.items c.in_ok-places.ensures.listed)

-- the instances are those that choices give of the parts that the edit left and of those that it added
given : (c : goal.After-drop-places-2) (old : List Part) → c.args.contents.now ≡ old ++ c.args.edit.now.1 → (k : ℕ) (t : List (List ℕ))
    → has_instance c.new.result k t ≡ gives_at (slice_get c.args.self.now k) t old c.args.edit.now.1
given c old e k t =
    let added = c.args.edit.now.1 in
    let o = slice_get c.args.self.now k in
    ap (λ (l : List Instance). has_instance l k t) c.new.ensures
    ∙ c.in_ok-found.ensures.given old e k t
    ∙ ap (λ (l : List ℕ). has_place l k && gives_at (slice_get c.as_slice-subscriptions.result.now k) t old added) c.as_slice.ensures.value
    ∙ ap (λ (l : List ManagedSubscription). has_place c.in_ok-places.places.items k && gives_at (slice_get l k) t old added)
    c.as_slice-subscriptions.ensures.list
    ∙ ap (λ (b : Bool). b && gives_at o t old added) (c.in_ok-places.ensures.listed k)
    ∙ ap (λ (parts : List Part). is_listed_at (names_of parts) o && gives_at o t old added) e
    ∙ listed_where_given t old added o

pub returns-clause-chosen : goal.returns-clause-chosen
returns-clause-chosen c before e k t = given c (spared c.args.edit.now.0 before) e k t

pub returns-clause-based : goal.returns-clause-based
returns-clause-based c = all_based c.args.self.now c.requires.0 c.args.edit.now.1 c.new.result (given c c.requires.0 c.requires.1)
