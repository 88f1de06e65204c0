use Rattle.df_live.proofs.Names.{ap, arith, length, sym, ◌∙◌, err_from_is_err_and}
use Rattle.df_live.proofs.Answered.{start_answered, start_broken, start_unanswered, stops_head_stops}
use Rattle.df_live.proofs.Taking.{if_done, if_failed}
use Rattle.df_live.proofs.run.begin.Goals as goal

pub returns-in_err-start-clause-stops : goal.returns-in_err-start-clause-stops
returns-in_err-start-clause-stops g c =
    let p = err_from_is_err_and c.from_residual.result c.from_residual.ensures.1 in
    rw (p.1, p.2) (stops_head_stops _ _ _ _ _ _ _ c.in_err-start.field-0.0 c.in_err-start.ensures.stops)

pub returns-in_default-clause-stops : goal.returns-in_default-clause-stops
returns-in_default-clause-stops g c = start_unanswered _ _ _ (g.I.Lines.faults c.args.input.now) (g.I.Lines.faults c.args.input.now) 0 0 c.in_ok-start.start
    c.in_ok-start.ensures.read

pub returns-then-is_err-clause-stops : goal.returns-then-is_err-clause-stops
returns-then-is_err-clause-stops g c =
    let failed = sym c.is_err.ensures.value ∙ c.if-is_err.true in
    start_broken _ _ _ _ (g.I.Lines.faults c.args.input.now) (g.I.Lines.faults c.args.input.now) _ _ c.in_ok-start.start c.deref.result.now
    (c.deref.ensures.value ∙ c.in-Ok.ensures.text) c.in_ok-start.ensures.read
    (if_failed c.write_all.result failed c.write_all.ensures.front) (if_failed c.write_all.result failed c.write_all.ensures.cause.rose)

pub returns-clause-begins : goal.returns-clause-begins
returns-clause-begins g c = (
  c.in_ok-start.start,
  start_answered _ _ _ _ c.in_ok-start.start c.in-Ok.tables c.deref.result.now (c.deref.ensures.value ∙ c.in-Ok.ensures.text) c.in-Ok.ensures.tables
      c.in_ok-start.ensures.read
      (if_done c.write_all.result (sym c.is_err.ensures.value ∙ c.if-is_err.false) c.write_all.ensures.all),
  omega (arith, ap length c.as_slice.ensures.roots),
)
