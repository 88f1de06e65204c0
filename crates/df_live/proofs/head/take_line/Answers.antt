use Rattle.df_live.proofs.Names.{Err, Result, ap, subst, sym, ◌∙◌, StopsTaking, NotTaken, Taken, LiveStatus}
use Rattle.df_live.proofs.Taking.{stops_taking}
use Rattle.df_live.proofs.head.take_line.Goals as goal

pub returns-in-Err-clause-stops : goal.returns-in-Err-clause-stops
returns-in-Err-clause-stops g c =
    subst (λ (s : LiveStatus). StopsTaking (g.I.Lines.faults c.args.input.now) (g.I.Lines.faults c.next_line.new.self) c.next_line.new.line.items s)
    (sym c.not_taken.ensures)
    (stops_taking _ _ c.next_line.new.line.items c.in-Err.why
    (λ is. c.next_line.ensures.too_long (c.in-Err.is ∙ ap (λ (e : NotTaken). let r : Result Taken NotTaken = Err e in r) is))
    (λ is. c.next_line.ensures.fault (c.in-Err.is ∙ ap (λ (e : NotTaken). let r : Result Taken NotTaken = Err e in r) is)))
