use Rattle.df_live.proofs.Names.{[], ◌++◌, ◌∷◌, arith, length-append, err_from_is_err_and, journal_of}
use Rattle.df_live.proofs.Answered.{all_answered, call_answered, stops_answer_stops, stops_last, stops_line_stops}
use Rattle.df_live.proofs.run.live.Goals as goal

pub calls-init : goal.calls-init
calls-init g c =
    let begins = c.in_ok-tables.ensures.begins in
    (begins.0, [], begins.1, omega (arith, begins.2), c.begin.ensures.reads_more, c.begin.ensures.writes_more)

pub returns-in_err-call-clause-stops : goal.returns-in_err-call-clause-stops
returns-in_err-call-clause-stops g c =
    let p = err_from_is_err_and c.from_residual-in_err-call.result c.from_residual-in_err-call.ensures.1 in
    let so_far = c.calls.invariant in
    rw (p.1, p.2) (stops_line_stops so_far.0 so_far.1 _ _ _ _ _ c.calls.tables _ _ _ _ _ _ c.in_err-call.field-0.0 so_far.2 so_far.3 so_far.4
    c.in_err-call.ensures.stops)

pub answer-requires-clause-state : goal.answer-requires-clause-state
answer-requires-clause-state g c =
    let so_far = c.calls.invariant in
    ((so_far.0, journal_of so_far.0 so_far.1), so_far.2.made)

pub calls-preserved : goal.calls-preserved
calls-preserved g c =
    let so_far = c.calls.invariant in
    let call = c.in-Some.call in (
      so_far.0,
      so_far.1 ++ call ∷ [],
      call_answered so_far.0 so_far.1 _ _ _ _ _ _ c.calls.tables _ call _ so_far.2 (rw c.in-Some.is at c.in_ok-call.ensures.read)
          (c.in_ok-answer.ensures.answers (so_far.0, journal_of so_far.0 so_far.1) so_far.2.made),
      omega (arith, so_far.3, c.in_ok-next.ensures.next, length-append so_far.1 (call ∷ [])),
      omega (arith, so_far.4, c.take_call.ensures.never_falls),
      omega (arith, so_far.5, c.answer.ensures.never_falls),
    )

pub returns-in_err-answer-clause-stops : goal.returns-in_err-answer-clause-stops
returns-in_err-answer-clause-stops g c =
    let p = err_from_is_err_and c.from_residual-in_err-answer.result c.from_residual-in_err-answer.ensures.1 in
    let so_far = c.calls.invariant in
    rw (p.1, p.2) (stops_answer_stops so_far.0 so_far.1 _ _ _ _ _ _ c.calls.tables _ c.in-Some.call _ _ _ _ _ _ c.in_err-answer.field-0.0 so_far.2
    c.in_ok-call.ensures.one (rw c.in-Some.is at c.in_ok-call.ensures.read) so_far.5
    (c.in_err-answer.ensures.stops (so_far.0, journal_of so_far.0 so_far.1) so_far.2.made))

pub returns-in_err-next-clause-stops : goal.returns-in_err-next-clause-stops
returns-in_err-next-clause-stops g c =
    let p = err_from_is_err_and c.from_residual-in_err-next.result c.from_residual-in_err-next.ensures.1 in
    let so_far = c.calls.invariant in
    let call = c.in-Some.call in
    let answered = call_answered so_far.0 so_far.1 _ _ _ _ _ _ c.calls.tables _ call _ so_far.2 (rw c.in-Some.is at c.in_ok-call.ensures.read)
    (c.in_ok-answer.ensures.answers (so_far.0, journal_of so_far.0 so_far.1) so_far.2.made) in
    let last = c.in_err-next.ensures.last in
    rw (p.1, p.2, last.0) (stops_last so_far.0 (so_far.1 ++ call ∷ []) _ _ _ _ _ 0 0 0 0 c.calls.next answered
    (omega (arith, so_far.3, length-append so_far.1 (call ∷ []))) last.1)

pub returns-clause-answers : goal.returns-clause-answers
returns-clause-answers g c =
    let so_far = c.calls.invariant in
    all_answered so_far.0 so_far.1 _ _ _ _ _ c.calls.tables [] so_far.2 (rw c.in_default.is at c.in_ok-call.ensures.read)
