use Rattle.df_journal_text.proofs.Names.{◌∙◌, sym, ap, ended, failed_is}
use Rattle.df_journal_text.proofs.Frames.{front_failed, middle_failed, tail_failed, tail_read}
use Rattle.df_journal_text.proofs.LineTells.{called, called_line, called_parts}
use Rattle.df_journal_text.proofs.line_reader.read_call_line.Goals as goal

pub returns-in_err-actor : goal.returns-in_err-actor
returns-in_err-actor c =
    rw (failed_is _ c.from_residual.ensures.1) (front_failed called c.args.line.now called_parts c.in_err-actor.field-0.0 c.in_err-actor.ensures)

pub returns-in_err-call : goal.returns-in_err-call
returns-in_err-call c =
    rw (failed_is _ c.from_residual-in_err-call.ensures.1) (middle_failed called c.args.line.now called_parts c.in_ok-actor.actor c.in_ok-actor.behind
    c.in_ok-actor.ensures.1 c.in_err-call.field-0.0 c.in_err-call.ensures)

pub returns-in_err-reply : goal.returns-in_err-reply
returns-in_err-reply c =
    rw (failed_is _ c.from_residual-in_err-reply.ensures.1) (tail_failed called c.args.line.now called_parts c.in_ok-actor.actor c.in_ok-actor.behind
    c.in_ok-actor.ensures.1 c.in_ok-call.call c.in_ok-call.arrow c.in_ok-call.ensures c.answer_at.result c.answer_at.ensures c.in_err-reply.field-0.0
    c.in_err-reply.ensures)

pub returns : goal.returns
returns c =
    let line = c.args.line.now in
    let t = tail_read called line called_parts c.in_ok-actor.actor c.in_ok-actor.behind c.in_ok-actor.ensures.1 c.in_ok-call.call c.in_ok-call.arrow
    c.in_ok-call.ensures c.answer_at.result c.answer_at.ensures c.in_ok-reply.reply c.in_ok-reply.ensures in
    (t.0, ap ended t.1 ∙ sym (called_line c.in_ok-actor.actor c.in_ok-call.call c.in_ok-reply.reply))
