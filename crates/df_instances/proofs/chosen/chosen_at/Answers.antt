use Rattle.std.proofs.Common.{◌∙◌, List, ℕ, length, refl, ap, arith}
use Rattle.std.specs.List.Sorted.{IsStrictlySortedBy}
use Rattle.std.proofs.lemmas.Option.{slice_get_read}
use Rattle.df_managed.specs.Contaminations.{has_set}
use Rattle.df_instances.proofs.Found.{found_more, more_among, more_ascending}
use Rattle.df_instances.proofs.chosen.chosen_at.Goals as goal

pub loop-place-init : goal.loop-place-init
unfolding IsStrictlySortedBy
loop-place-init c = rw c.new-found.ensures.items (record {
  given = λ old e k t. refl;
  among = λ k d l. absurd (omega (arith, l));
  ascending = tt;
})

pub loop-place-preserved : goal.loop-place-preserved
loop-place-preserved c =
    let i = c.loop-place.place-index in
    let places = c.args.places.now in
    let s = c.index-subscriptions-place.result in
    let found = c.loop-place.found.items in
    let sets = c.as_slice.result.now in
    let before = c.loop-place.invariant in
    let managed = c.args.subscriptions.now in
    let at = slice_get_read managed (length managed) _ s refl (c.requires.within i 0 (omega arith)) c.index-subscriptions-place.is in
    rw c.in_ok-put_instances.ensures (record {
      given = λ old e. found_more managed places i 0 s old c.args.edit.now.1 found sets (omega arith) at (before.given old e)
          (λ t. ap (λ (l : List (List (List ℕ))). has_set l t) c.as_slice.ensures ∙ c.in_ok-sets.ensures.given old e t);
      among = more_among places i 0 found sets (omega arith) before.among;
      ascending = more_ascending places i 0 found sets (omega arith) before.among c.requires.up before.ascending
          (rw c.as_slice.ensures c.in_ok-sets.ensures.ascending);
    })
