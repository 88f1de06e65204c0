use Rattle.df_script_text.proofs.Names.{◌∙◌, sym, ap, Ok, refl, failed_is}
use Rattle.df_journal_text.specs.code.Judging.{ended}
use Rattle.df_journal_text.specs.declared.line_fault.LineFault.TheVariants as fault
use Rattle.df_journal_text.proofs.Frames.{front_failed, middle_failed, tail_failed, tail_read}
use Rattle.df_script_text.proofs.ScriptLines.{made, made_line, made_parts}
use Rattle.df_script_text.proofs.line.read_line.Goals as goal

pub returns-in_err-actor : goal.returns-in_err-actor
returns-in_err-actor c =
    rw (failed_is _ c.from_residual.ensures.1) (front_failed made _ made_parts _ c.in_err-actor.ensures)

pub returns-in_err-call : goal.returns-in_err-call
returns-in_err-call c =
    rw (failed_is _ c.from_residual-in_err-call.ensures.1) (middle_failed made _ made_parts _ _ c.in_ok-actor.ensures.1 _ c.in_err-call.ensures)

pub returns-then-end-line : goal.returns-then-end-line
returns-then-end-line c =
    tail_failed made _ made_parts _ _ c.in_ok-actor.ensures.1 _ _ c.in_ok-call.ensures (Ok (tt, c.in_ok-call.end)) (c.in_ok-call.ensures.0, refl) fault.Syntax
    (refl, c.if-end-line.true)

pub returns : goal.returns
returns c =
    let t = tail_read made _ made_parts _ _ c.in_ok-actor.ensures.1 _ _ c.in_ok-call.ensures
    (Ok (tt, c.in_ok-call.end)) (c.in_ok-call.ensures.0, refl) tt (refl, c.if-end-line.false) in
    ((t.0.0, t.0.1), ap ended t.1 ∙ sym (made_line (record { actor = c.in_ok-actor.actor; call = c.in_ok-call.call })))
