use Rattle.std.proofs.Common.{◌≡◌, ◌∙◌, ap, rules}
use Rattle.std.specs.Ordering.{is_lt, nat_cmp}
use Rattle.std.proofs.lemmas.List.Sorted.{answers_always}
use Rattle.df_auction.specs.Ranking.{bids_more, ranked}
use Rattle.df_auction.proofs.Ranks.{sort_ranks, less_is, bids_order}
use Rattle.df_auction.proofs.lot.purchases.Goals as goal

pub returns : goal.returns
returns c =
    let compares = answers_always _ (λ a r. is_lt r ≡ bids_more a.0.now a.1.0.now) _ (λ f a r q k. let e : r ≡ nat_cmp a.1.0.now.limit a.0.now.limit = search rules in ap is_lt e ∙ less_is a.1.0.now.limit a.0.now.limit) in
    let sorted = c.in_ok-sort_by.ensures.sorted bids_more bids_order compares in
    let stable = c.in_ok-sort_by.ensures.stable bids_more bids_order compares in
    sort_ranks bids_more bids_order _ _ sorted stable ∙ ap (ranked bids_more) c.in_ok-bids.ensures
