use Rattle.df_journal_text.proofs.Names.{◌∙◌, sym, ap, PartRead, ended, failed_is}
use Rattle.df_journal_text.proofs.Frames.{front_failed, middle_failed, tail_failed, tail_read}
use Rattle.df_journal_text.proofs.LineTells.{shown_frame, shown_parts, shown_text}
use Rattle.df_journal_text.proofs.line_reader.read_shown_line.Goals as goal

pub returns-in_err-label : goal.returns-in_err-label
returns-in_err-label c =
    rw (failed_is _ c.from_residual.ensures.1) (front_failed shown_frame c.args.line.now shown_parts c.in_err-label.field-0.0 c.in_err-label.ensures)

pub returns-in_err-value : goal.returns-in_err-value
returns-in_err-value c =
    rw (failed_is _ c.from_residual-in_err-value.ensures.1) (middle_failed shown_frame c.args.line.now shown_parts c.in_ok-label.label c.in_ok-label.behind
    c.in_ok-label.ensures.1 c.in_err-value.field-0.0 c.in_err-value.ensures)

pub returns-in_err-privileges : goal.returns-in_err-privileges
returns-in_err-privileges c =
    rw (failed_is _ c.from_residual-in_err-privileges.ensures.1) (tail_failed shown_frame c.args.line.now shown_parts c.in_ok-label.label c.in_ok-label.behind
    c.in_ok-label.ensures.1 c.in_ok-value.value c.in_ok-value.after c.in_ok-value.ensures c.privileges_at.result c.privileges_at.ensures
    c.in_err-privileges.field-0.0 c.in_err-privileges.ensures)

pub returns : goal.returns
returns c =
    let t = tail_read shown_frame c.args.line.now shown_parts c.in_ok-label.label c.in_ok-label.behind c.in_ok-label.ensures.1 c.in_ok-value.value
    c.in_ok-value.after c.in_ok-value.ensures c.privileges_at.result c.privileges_at.ensures c.in_ok-privileges.privileges c.in_ok-privileges.ensures in
    let part : PartRead = record { label = c.in_ok-label.label; value = c.in_ok-value.value; privileges = c.in_ok-privileges.privileges } in
    (t.0, ap ended t.1 ∙ sym (shown_text part))
