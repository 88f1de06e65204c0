use Rattle.std.proofs.Common.{rules, ◌≡◌, ◌∙◌, List, ℕ, ◌++◌, ◌∷◌, [], ap, length, cond}
use Rattle.std.specs.Str.{bytes_eq}
use Rattle.df_index.specs.Listing.{places_at}
use Rattle.df_instances.proofs.Enrolled.{IsManaged-like, IsManaged-push}
use Rattle.df_instances.proofs.managed.Managed.enrol.Goals as goal

pub invariant_of-self-in_err-list_under : goal.invariant_of-self-in_err-list_under
invariant_of-self-in_err-list_under c =
    let inside = c.self.inside in
    rw c.reserve.ensures.items
    (IsManaged-like inside.subscriptions.items inside.table c.list_under.new.table c.in_err-list_under.ensures.unchanged c.self.invariant)

pub invariant_of-self-2 : goal.invariant_of-self-2
invariant_of-self-2 c =
    let xs = c.self.inside.subscriptions.items in
    let table = c.self.inside.table in
    let name = c.first_name-name.result.now in
    let with_place : List ℕ → ℕ → List ℕ = λ n k. cond (bytes_eq name n) (places_at n table ++ k ∷ []) (places_at n table) in
    let more : (n : List ℕ) → places_at n c.list_under.new.table ≡ with_place n (length xs) =
    λ n. c.in_ok-list_under.ensures.ok n ∙ ap (with_place n) (search rules) in
    rw (c.push_reserved.ensures.items, c.reserve.ensures.items)
    (IsManaged-push xs table c.list_under.new.table _ name c.first_name-name.ensures c.requires.owned c.requires.accounted more c.self.invariant)
