use Rattle.std.proofs.Common.{rules, ◌≡◌, List, ℕ, Option, ◌++◌, ◌∷◌, [], ap, sym, subst, ◌∙◌, cond, refl}
use Rattle.std.specs.Prelude.{IsSome}
use Rattle.std.specs.BTreeMap.{BTreeMap}
use Rattle.std.specs.Option.{unwrap_or}
use Rattle.std.specs.Str.{bytes_eq}
use Rattle.df_index.specs.Listing.{places_at}
use Rattle.df_index.proofs.Table.{as_before, one_more}
use Rattle.df_instances.proofs.places.list_under.Goals as goal

pub returns-in_err-push-clause-unchanged : goal.returns-in_err-push-clause-unchanged
returns-in_err-push-clause-unchanged c =
    let h = c.get_mut.follows.holds c.push.new.self in
    let v = c.in-Some.ensures.value in
    let e : c.push.new.self ≡ places_at c.args.name c.args.table.now = c.in_err-push.ensures.unchanged ∙ ap (λ (o : Option (List ℕ)). unwrap_or o []) v in
    let k = as_before c.args.table.now (c.get_mut.follows.lender c.push.new.self) c.args.name c.push.new.self (h.3 (subst IsSome v refl)).0 e in
    search (rules, k)

pub returns-in-Some-clause-ok : goal.returns-in-Some-clause-ok
returns-in-Some-clause-ok c =
    let h = c.get_mut.follows.holds c.push.new.self in
    let v = c.in-Some.ensures.value in
    let e : c.push.new.self ≡ places_at c.args.name c.args.table.now ++ c.args.place ∷ [] =
    c.in_ok-push.ensures.ok ∙ ap (λ (o : Option (List ℕ)). unwrap_or o [] ++ c.args.place ∷ []) v in
    one_more c.args.table.now (c.get_mut.follows.lender c.push.new.self) c.args.name c.push.new.self (h.3 (subst IsSome v refl)).0 c.args.place e

pub returns-clause-ok : goal.returns-clause-ok
returns-clause-ok c =
    let v = c.in_default.ensures.value in
    let same = c.get_mut.follows.holds-at-none in
    let e : c.in_ok-places.places ≡ places_at c.args.name c.args.table.now ++ c.args.place ∷ [] =
    c.in_ok-places.ensures ∙ ap (λ (o : Option (List ℕ)). unwrap_or o [] ++ c.args.place ∷ []) v in
    let f : c.in_ok-places.places ≡ places_at c.args.name c.get_mut.follows.lender-at-none ++ c.args.place ∷ [] =
    e ∙ ap (λ (t : BTreeMap (List ℕ) (List ℕ)). places_at c.args.name t ++ c.args.place ∷ []) (sym same) in
    subst (λ (t : BTreeMap (List ℕ) (List ℕ)). (n : List ℕ)
    → places_at n c.insert.new.self ≡ cond (bytes_eq c.args.name n) (places_at n t ++ c.args.place ∷ []) (places_at n t)) same
    (one_more c.get_mut.follows.lender-at-none c.insert.new.self c.args.name c.in_ok-places.places c.in_ok-insert.ensures.updates.0 c.args.place f)
