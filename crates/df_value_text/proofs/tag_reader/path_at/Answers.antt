use Rattle.df_value_text.proofs.Names.{List, ℕ, Ok, [], ◌∷◌, ap, drop, refl, sym, ◌∙◌, short_at, leads_number}
use Rattle.df_value_text.proofs.Loops.{begun, left_done}
use Rattle.df_value_text.proofs.TagSteps.{no_number}
use Rattle.df_value_text.proofs.tag_reader.path_at.Goals as goal

pub returns-then-not-leads_number-clause-exact : goal.returns-then-not-leads_number-clause-exact
returns-then-not-leads_number-clause-exact c =
    let n = c.in_ok-number.number in
    let end = c.in_ok-number.end in
    let alone = left_done (begun leads_number short_at (λ prev. short_at) c.args.bytes.now c.args.at end n (n ∷ []) c.in_ok-number.ensures.exact.1 refl)
    (no_number (drop end c.args.bytes.now) (sym c.leads_number.ensures ∙ c.if-not-leads_number.true)) in
    (c.in_ok-number.ensures.exact.0, alone ∙ ap (λ (ns : List ℕ). Ok (ns, drop end c.args.bytes.now)) (sym c.in_ok-new.ensures))
