-- One more place that is looked at.
use Rattle.std.proofs.Common.{◌≡◌, ℕ, ◌+◌, ◌<◌, List, [], ◌∷◌, ◌++◌, Option, Some, Bool, length, get_or, take, slice_get, ap, sym, ◌∙◌}
use Rattle.std.proofs.lemmas.List.{append-nil, take_more}
use Rattle.std.proofs.lemmas.List.Concat.{flat_map-append}
use Rattle.df_index.specs.Due.{Pair, pair_where, pairs_at}
use Rattle.df_index.specs.declared.subscription.Subscription.{Subscription}

pairs_at-more : {F : Type 0} (test : Subscription F → Bool) (xs : List (Subscription F)) (places : List ℕ) (i d : ℕ) (s : Subscription F) → i < length places → slice_get xs (get_or places i d) ≡ Some s
    → pairs_at test xs (take (i + 1) places) ≡ pairs_at test xs (take i places) ++ pair_where test (Some s)
pairs_at-more {F} test xs places i d s h e =
    ap (pairs_at test xs) (take_more places i d h)
    ∙ flat_map-append (λ (k : ℕ). pair_where test (slice_get xs k)) (take i places) (get_or places i d ∷ [])
    ∙ ap (λ (l : List Pair). pairs_at test xs (take i places) ++ l) (append-nil (pair_where test (slice_get xs (get_or places i d))))
    ∙ ap (λ (o : Option (Subscription F)). pairs_at test xs (take i places) ++ pair_where test o) e

-- what was found so far, with the pair of one more subscription if it passes
pub found_more : {F : Type 0} (test : Subscription F → Bool) (xs : List (Subscription F)) (places : List ℕ) (i d : ℕ) (s : Subscription F) (old new : List Pair) → i < length places → slice_get xs (get_or places i d) ≡ Some s
    → old ≡ pairs_at test xs (take i places) → new ≡ old ++ pair_where test (Some s) → new ≡ pairs_at test xs (take (i + 1) places)
found_more test xs places i d s old new h e before more =
    more ∙ ap (λ (l : List Pair). l ++ pair_where test (Some s)) before ∙ sym (pairs_at-more test xs places i d s h e)
