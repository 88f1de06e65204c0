use Rattle.df_live.proofs.Names.{sym, ◌∙◌}
use Rattle.df_live.proofs.Answered.{step_written}
use Rattle.df_live.proofs.Taking.{if_done, if_failed}
use Rattle.df_live.proofs.answer.answer.Goals as goal

pub returns-then-is_err-2-clause-stops : goal.returns-then-is_err-2-clause-stops
returns-then-is_err-2-clause-stops g c core agrees =
    let step = if_done c.append_step.result (sym c.is_err.ensures.value ∙ c.if-is_err.false) c.append_step.ensures core agrees in
    let failed = sym c.is_err-2.ensures.value ∙ c.if-is_err-2.true in (
      if_failed c.write_all.result failed c.write_all.ensures.cause.rose,
      (
        c.deref.result.now,
        step_written c.args.line core _ _ _ _ c.clear.ensures.items c.deref.ensures.value step,
        if_failed c.write_all.result failed c.write_all.ensures.front,
      ),
    )

pub returns-clause-answers : goal.returns-clause-answers
returns-clause-answers g c core agrees =
    let step = if_done c.append_step.result (sym c.is_err.ensures.value ∙ c.if-is_err.false) c.append_step.ensures core agrees in (
      c.deref.result.now,
      step_written c.args.line core _ _ _ _ c.clear.ensures.items c.deref.ensures.value step,
      if_done c.write_all.result (sym c.is_err-2.ensures.value ∙ c.if-is_err-2.false) c.write_all.ensures.all,
    )
