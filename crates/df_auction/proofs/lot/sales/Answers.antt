use Rattle.std.proofs.Common.{◌≡◌, ◌∙◌, ap, rules}
use Rattle.std.specs.Ordering.{is_lt, nat_cmp}
use Rattle.std.proofs.lemmas.List.Sorted.{answers_always}
use Rattle.df_auction.specs.Ranking.{asks_less, ranked}
use Rattle.df_auction.proofs.Ranks.{sort_ranks, less_is, asks_order}
use Rattle.df_auction.proofs.lot.sales.Goals as goal

pub returns : goal.returns
returns c =
    let compares = answers_always _ (λ a r. is_lt r ≡ asks_less a.0.now a.1.0.now) _ (λ f a r q k. let e : r ≡ nat_cmp a.0.now.limit a.1.0.now.limit = search rules in ap is_lt e ∙ less_is a.0.now.limit a.1.0.now.limit) in
    let sorted = c.in_ok-sort_by.ensures.sorted asks_less asks_order compares in
    let stable = c.in_ok-sort_by.ensures.stable asks_less asks_order compares in
    sort_ranks asks_less asks_order _ _ sorted stable ∙ ap (ranked asks_less) c.in_ok-asks.ensures
