use Rattle.std.proofs.Common.{rules, ◌≡◌, ◌∙◌, List, ℕ, ◌++◌, ◌∷◌, [], ap, length, cond}
use Rattle.std.specs.Str.{bytes_eq}
use Rattle.df_index.specs.Listing.{places_at}
use Rattle.df_index.proofs.Enrolled.{IsListing-like, IsListing-push}
use Rattle.df_index.proofs.listing.Listing.enrol.Goals as goal

pub invariant_of-self-in_err-list_under : goal.invariant_of-self-in_err-list_under
invariant_of-self-in_err-list_under g c =
    rw c.reserve.ensures.items (IsListing-like g.F.Listed.first_of c.self.inside.subscriptions.items c.self.inside.table c.list_under.new.table c.in_err-list_under.ensures.unchanged c.self.invariant)

pub invariant_of-self-2 : goal.invariant_of-self-2
invariant_of-self-2 g c =
    let more : (n : List ℕ) → places_at n c.list_under.new.table ≡ cond (bytes_eq c.first-name.result.now n) (places_at n c.self.inside.table ++ length c.self.inside.subscriptions.items ∷ []) (places_at n c.self.inside.table) =
    λ n. c.in_ok-list_under.ensures.ok n ∙ ap (λ (k : ℕ). cond (bytes_eq c.first-name.result.now n) (places_at n c.self.inside.table ++ k ∷ []) (places_at n c.self.inside.table)) (search rules) in
    rw (c.push_reserved.ensures.items, c.reserve.ensures.items)
    (IsListing-push g.F.Listed.first_of c.self.inside.subscriptions.items c.self.inside.table c.list_under.new.table c.args.subscription c.first-name.result.now c.first-name.ensures more c.self.invariant)
