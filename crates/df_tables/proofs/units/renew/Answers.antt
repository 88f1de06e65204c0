use Rattle.df_tables.proofs.Names.{◌≡◌, ℕ, ◌<◌, List, [], ◌∷◌, Some, length, get_or, set, ap, sym, ◌∙◌, arith, get_or-map, length-map, length-set, Label, AreLabels, inputs, Unit}
use Rattle.df_tables.proofs.units.renew.Goals as goal

-- the label that may be of before is one of the labels
within : (now labels : List Label) (k : ℕ) → AreLabels now labels (Some k) → k < length labels
within [] labels k are = let none = are.0 in absurd (omega (arith, none))
within (l ∷ ls) labels k are =
    let e = length-set labels k (get_or (l ∷ ls) k l) in
    let n = ap length (are.1 l) in
    let h = are.0 in
    omega (arith, h, e, n)

pub index_mut-requires : goal.index_mut-requires
index_mut-requires c =
    let h = within (inputs c.args.units.now) c.args.labels.now.items c.args.place c.requires in
    let same = c.args.labels.now.ok in
    omega (arith, h, same)

pub returns-clause-ok : goal.returns-clause-ok
returns-clause-ok c =
    let us = c.args.units.now in
    let k = c.args.place in
    let l = c.in_ok-label.label in
    let h = c.requires.0 in
    let n = length-map us (λ (u : Unit). u.local.own.input) in
    let inside : k < length us = omega (arith, h, n) in
    let is : l ≡ get_or (inputs us) k l =
    c.in_ok-label.ensures.value ∙ c.input.ensures ∙ sym (get_or-map (λ (u : Unit). u.local.own.input) us k c.index-units-place.result l inside) in
    ap (λ (x : Label). set c.args.labels.now.items k x) is ∙ c.requires.1 l
