use Rattle.df_journal_text.proofs.Names.{failed_is}
use Rattle.df_journal_text.proofs.CallTells.{add_stands, added_found, added_no_spot, added_no_value, plain_fails, plain_tells}
use Rattle.df_journal_text.proofs.call_reader.read_call_at.Goals as goal

pub returns-in_err-call : goal.returns-in_err-call
returns-in_err-call c =
    rw (failed_is _ c.from_residual.ensures.1) (plain_fails c.args.bytes.now c.args.at c.in_err-call.field-0.0 c.in_default.ensures c.in_err-call.ensures)

pub returns-in_default : goal.returns-in_default
returns-in_default c =
    plain_tells c.args.bytes.now c.args.at c.in_ok-call.call c.in_ok-call.end c.in_default.ensures c.in_ok-call.ensures.0 c.in_ok-call.ensures.1

pub returns-in_err-h : goal.returns-in_err-h
returns-in_err-h c =
    let add = add_stands c.args.bytes.now c.args.at c.in-Some.start c.in-Some.ensures.1 in
    rw (failed_is _ c.from_residual-in_err-h.ensures.1) (added_no_spot c.args.bytes.now c.args.at c.in-Some.start add c.in_err-h.field-0.0 c.in_err-h.ensures)

pub returns-in_err-value : goal.returns-in_err-value
returns-in_err-value c =
    let add = add_stands c.args.bytes.now c.args.at c.in-Some.start c.in-Some.ensures.1 in
    rw (failed_is _ c.from_residual-in_err-value.ensures.1) (added_no_value c.args.bytes.now c.args.at c.in-Some.start add c.in_ok-h.behind (
      c.in_ok-h.h,
      (c.in_ok-h.label, c.in_ok-h.name),
    ) c.in_ok-h.ensures.1 c.in_err-value.field-0.0 c.in_err-value.ensures)

pub returns : goal.returns
returns c =
    let add = add_stands c.args.bytes.now c.args.at c.in-Some.start c.in-Some.ensures.1 in
    added_found c.args.bytes.now c.args.at c.in-Some.start add c.in_ok-h.behind (c.in_ok-h.h, (c.in_ok-h.label, c.in_ok-h.name)) c.in_ok-h.ensures.1
    c.in_ok-value.value c.in_ok-value.end c.in_ok-value.ensures
