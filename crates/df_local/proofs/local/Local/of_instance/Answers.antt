use Rattle.df_local.proofs.Names.{ap, ◌∙◌, join, Label, begin, accounted_as, record_of}
use Rattle.df_local.proofs.Begun.{begun_instance}
use Rattle.df_local.proofs.local.Local.of_instance.Goals as goal

pub begun-requires : goal.begun-requires
begun-requires c =
    let f = record_of c.args.fixed.now in
    let s = c.args.s.now in
    let reading = c.in_ok-reading.ensures in
    let writing = c.in_ok-writing.ensures in
    accounted_as (begin f s) _ _ _ _ _ (begun_instance f s c.requires.base c.requires.accounted)
    (reading.input ∙ c.in_ok-input.ensures) (writing.output ∙ c.in_ok-output.ensures)
    (reading.contamination ∙ ap (λ (l : Label). join f.contamination l) c.in_ok-input.ensures)
    writing.dropped writing.endorsed
