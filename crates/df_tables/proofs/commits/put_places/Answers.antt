use Rattle.df_tables.proofs.Names.{◌≡◌, ◌+◌, ◌++◌, ◌∷◌, [], List, ℕ, zero, suc, ◌<◌, drop, length, ap, sym, ◌∙◌, arith, append_assoc, append-nil, drop_all, rows_in, places_from, Newborn}
use Rattle.df_tables.proofs.commits.put_places.Goals as goal

step : (to : List ℕ) (n i : ℕ) (bs : List Newborn) → i < length bs → (to ++ n ∷ []) ++ places_from (n + 1) (rows_in (drop (suc i) bs)) ≡ to ++ places_from n (rows_in (drop i bs))
step to n i [] h = absurd (omega (arith, h))
step to n zero (b ∷ bs) h = append_assoc to (n ∷ []) (places_from (n + 1) (rows_in bs))
step to n (suc i) (b ∷ bs) h = step to n i bs (omega (arith, h))

pub loop-preserved : goal.loop-preserved
loop-preserved c =
    let kept = c.loop.invariant in
    let to : List ℕ = c.loop.to.items in
    let n = c.loop.place in
    let next : c.loop.index + 1 ≡ suc c.loop.index = omega arith in record {
      place = omega (arith, kept.place);
      places = ap (λ (l : List ℕ). l ++ places_from (n + 1) (rows_in (drop (c.loop.index + 1) c.args.born.now))) c.in_ok-push.ensures.items
          ∙ ap (λ (k : ℕ). (to ++ n ∷ []) ++ places_from (n + 1) (rows_in (drop k c.args.born.now))) next
          ∙ step to n c.loop.index c.args.born.now (omega arith)
          ∙ kept.places;
    }

pub returns : goal.returns
returns c =
    let kept = c.loop.invariant in
    let to : List ℕ = c.loop.to.items in
    sym (append-nil to)
    ∙ ap (λ (l : List Newborn). to ++ places_from c.loop.place (rows_in l)) (sym (drop_all c.loop.index c.args.born.now (omega arith)))
    ∙ kept.places
