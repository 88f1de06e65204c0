use Rattle.std.proofs.Common.{Bool, List, ℕ, length, ◌<◌, ◌≤◌, ◌≡◌, Option, All, ap, sym, subst, ◌∙◌, arith}
use Rattle.std.specs.List.{Contains}
use Rattle.std.specs.List.Sorted.{IsStrictlySortedBy}
use Rattle.std.proofs.lemmas.List.Filters.{dedup_is}
use Rattle.std.proofs.lemmas.List.Kept.{Contains-dedup, Contains-from_dedup, IsStrictlySortedBy-dedup}
use Rattle.std.proofs.lemmas.List.Sorted.{Contains-permutation, IsPermutation-sym}
use Rattle.df_part.specs.declared.part.Part.{Part}
use Rattle.df_index.specs.Due.{Pair, pairs_at}
use Rattle.df_index.specs.Occasion.{is_due_on}
use Rattle.df_index.specs.Listing.{AreLookedUp, listed_under, names_of}
use Rattle.df_index.specs.declared.subscription.Subscription.{Subscription}
use Rattle.df_index.proofs.Counted.{places_bound}
use Rattle.df_index.proofs.DueFound.{due_found, found_due}
use Rattle.df_index.proofs.Pairs.{pair_equiv, pair_ties, pair_total, same_pair}
use Rattle.df_index.proofs.WhoIsDue.{places_within}
use Rattle.df_index.proofs.index.found.Goals as goal

pub due-requires-clause-within : goal.due-requires-clause-within
due-requires-clause-within g c =
    let looked = c.in_ok-places.ensures in
    subst (λ (l : List (Subscription g.row.F.Denot)). All (λ (k : ℕ). k < length l) c.in_ok-places.places.now) (sym c.as_slice.ensures.list)
    (subst (λ (l : List ℕ). All (λ (k : ℕ). k < length c.args.listing.now) l) (sym looked.places)
    (places_within g.F.Listed.first_of c.args.listing.now looked.names))

pub returns-then-is_empty-clause-ascending : goal.returns-then-is_empty-clause-ascending
unfolding IsStrictlySortedBy
returns-then-is_empty-clause-ascending g c = rw c.new.ensures.items tt

pub returns-clause-ascending : goal.returns-clause-ascending
returns-clause-ascending g c = rw (dedup_is _ _ _ c.dedup.ensures.filtered) (IsStrictlySortedBy-dedup pair_total pair_ties _ c.sort_unstable.ensures.sorted)

pub returns-clause-due : goal.returns-clause-due
returns-clause-due g c p =
    let o = c.args.occasion.now in
    let test : Subscription g.row.F.Denot → Bool = is_due_on g.F.Listed.matches o in
    let looked = c.in_ok-places.ensures in
    let is =
    c.in_ok-found.ensures.due
    ∙ ap (λ (l : List (Subscription g.row.F.Denot)). pairs_at test l c.in_ok-places.places.now) c.as_slice.ensures.list
    ∙ ap (pairs_at test c.args.listing.now) looked.places in
    let covers = subst (λ (parts : List Part). (n : List ℕ) → Contains (names_of parts) n → Contains looked.names n) c.parts.ensures looked.all in (
      (λ h. found_due g.F.Listed.first_of g.F.Listed.matches o.labels.now o.handed.now o.contents.now o.edit.now c.args.listing.now looked.names p
          (subst (λ (l : List Pair). Contains l p) is
          (Contains-permutation _ _ p (IsPermutation-sym _ _ c.sort_unstable.ensures.permutation)
          (Contains-from_dedup _ _ p (rw (dedup_is _ _ _ c.dedup.ensures.filtered) at h))))),
      (λ h. rw (dedup_is _ _ _ c.dedup.ensures.filtered)
          (Contains-dedup pair_equiv same_pair _ p (Contains-permutation _ _ p c.sort_unstable.ensures.permutation
          (subst (λ (l : List Pair). Contains l p) (sym is)
          (due_found g.F.Listed.first_of g.F.Listed.matches o.labels.now o.handed.now o.contents.now o.edit.now c.args.listing.now looked.names
          g.met.F.Listed.has_first c.as_slice.ensures.named covers p h))))),
    )

-- at most as many places were looked up as subscriptions are listed under these names
bounded : {F : Type 0} (first : F → Option (List ℕ)) (parts contents : List Part) (xs : List (Subscription F)) (found : List ℕ)
    → parts ≡ contents → AreLookedUp first parts xs found → length found ≤ listed_under first (names_of contents) xs
bounded first parts contents xs found same looked =
    let among = subst (λ (ps : List Part). (n : List ℕ) → Contains looked.names n → Contains (names_of ps) n) same looked.among in
    let b = places_bound first looked.names (names_of contents) xs looked.ascending among in
    let e = ap length looked.places in omega (arith, b, e)

pub returns-clause-bound : goal.returns-clause-bound
returns-clause-bound g c =
    let b = bounded g.F.Listed.first_of _ _ c.args.listing.now c.in_ok-places.places.now c.parts.ensures c.in_ok-places.ensures in
    let d = c.in_ok-found.ensures.bound in omega (arith, b, d)

pub returns-in_err-found-clause-bound : goal.returns-in_err-found-clause-bound
returns-in_err-found-clause-bound g c =
    let b = bounded g.F.Listed.first_of _ _ c.args.listing.now c.in_ok-places.places.now c.parts.ensures c.in_ok-places.ensures in
    let d = c.in_err-found.ensures.bound in omega (arith, b, d)
