use Rattle.df_lint.proofs.Names.{◌≡◌, [], Err, true, false, ap, sym, ◌∙◌, slice_index_or, is_eq, tag_cmp, tag_cmp_exact, tag_eq-exact}
use Rattle.df_label.proofs.PlaceFacts.{searched}
use Rattle.df_lint.proofs.tags.place_of.Goals as goal

pub returns-in-Ok-clause-tag : goal.returns-in-Ok-clause-tag
returns-in-Ok-clause-tag c = tag_eq-exact (slice_index_or c.args.tags.now c.in-Ok.place []) c.args.tag.now (ap is_eq (c.in-Ok.ensures.position []))

pub returns-in-Err-clause-tag : goal.returns-in-Err-clause-tag
returns-in-Err-clause-tag c =
    let z : true ≡ false = sym c.requires.there ∙ searched tag_cmp tag_cmp_exact c.args.tag.now c.args.tags.now c.requires.ascending (Err c.in-Err.field-0) c.in-Err.ensures.bound c.in-Err.ensures.position in
    absurd (let y : ⊥ = cc in y)
