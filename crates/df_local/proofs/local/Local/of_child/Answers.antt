use Rattle.df_local.proofs.Names.{ap, subst, ◌∙◌, join, beginning, IsKept, accounted_as, LocalState}
use Rattle.df_local.proofs.Begun.{begun_child}
use Rattle.df_local.proofs.local.Local.of_child.Goals as goal

pub begun-requires : goal.begun-requires
begun-requires c =
    let maker = c.args.self.now.own in
    let input = c.args.input in
    let output = c.args.output in
    let kept = subst (λ (l : LocalState). IsKept l.own) c.self.view_is c.self.invariant in
    let reading = c.in_ok-reading.ensures in
    let writing = c.in_ok-writing.ensures in
    accounted_as (beginning input output (join maker.contamination input) maker.dropped maker.endorsed c.args.held) _ _ _ _ _
    (begun_child maker input output c.args.held kept c.requires.reads c.requires.writes c.requires.read_integrity c.requires.written_integrity)
    reading.input writing.output
    (reading.contamination ∙ ap (λ (l : LocalState). join l.own.contamination input) c.self.view_is)
    (writing.dropped ∙ ap (λ (l : LocalState). l.own.dropped) c.self.view_is)
    (writing.endorsed ∙ ap (λ (l : LocalState). l.own.endorsed) c.self.view_is)
