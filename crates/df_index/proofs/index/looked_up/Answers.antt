use Rattle.std.proofs.Common.{◌≡◌, ◌<◌, ◌≤◌, ℕ, List, [], ◌∷◌, Option, length, get_or, ap, sym, subst, ◌∙◌, arith}
use Rattle.std.proofs.lemmas.List.{append-nil}
use Rattle.df_part.specs.declared.part.Part.{Part}
use Rattle.df_index.specs.Listing.{AreLookedUp, places_of}
use Rattle.df_index.specs.declared.subscription.Subscription.{Subscription}
use Rattle.df_index.proofs.index.looked_up.Goals as goal

alone : (parts : List Part) (p : Part) → 1 ≤ length parts → length parts < 2 → p ≡ get_or parts 0 p → parts ≡ p ∷ []
alone [] p some few is = absurd (omega (arith, some))
alone (q ∷ []) p some few is = ap (λ (x : Part). x ∷ []) (sym is)
alone (q ∷ r ∷ more) p some few is = absurd (omega (arith, few))

looked_alone : {F : Type 0} (first : F → Option (List ℕ)) (xs : List (Subscription F)) (p : Part) (found : List ℕ)
    → found ≡ places_of first p.name xs → AreLookedUp first (p ∷ []) xs found
unfolding Rattle.std.specs.List.Sorted.IsStrictlySortedBy
looked_alone first xs p found is = record {
  names = p.name ∷ [];
  ascending = (tt, tt);
  among = λ n h. h;
  all = λ n h. h;
  places = is ∙ sym (append-nil (places_of first p.name xs));
}

pub returns-in-len1 : goal.returns-in-len1
returns-in-len1 g c =
    let p = c.part-item.result in
    let is = c.under.ensures ∙ ap (λ (x : Part). places_of g.F.Listed.first_of x.name c.args.listing.now) c.part.ensures in
    subst (λ (ps : List Part). AreLookedUp g.F.Listed.first_of ps c.args.listing.now c.under.result.now)
    (sym (alone c.args.parts.now p (omega (arith, c.in-len1.len_at_least)) (omega (arith, c.in-len1.len_below)) c.part-item.is))
    (looked_alone g.F.Listed.first_of c.args.listing.now p c.under.result.now is)
