use Rattle.df_handles.proofs.Names.{sym, ◌∙◌}
use Rattle.df_label.proofs.LabelFacts.{flows_to-parts}
use Rattle.df_label.proofs.TagSetFacts.{meet-included_left, union-included_right}
use Rattle.df_label.specs.declared.label.Label.{Label}
use Rattle.df_handles.proofs.parts.is_raised.Goals as goal

pub returns : goal.returns
returns c is =
    let out = c.args.output.now in
    let label = c.args.label.now in
    let within = flows_to-parts out label (sym c.flows_to.ensures ∙ is) in
    let s = union-included_right label.s out.s c.as_slice-ascending.ensures.ascending within.0 in
    let i = meet-included_left label.i out.i within.1 in
    λ j. let l : Label = record { s = s j; i = i j } in l
