use Rattle.df_journal_text.proofs.Names.{◌∙◌, sym, ap, Part, ended, failed_is}
use Rattle.df_journal_text.proofs.Frames.{front_failed, middle_failed, tail_failed, tail_read}
use Rattle.df_journal_text.proofs.LineTells.{part_frame, part_parts, part_text}
use Rattle.df_journal_text.proofs.line_reader.read_part_line.Goals as goal

pub returns-in_err-label : goal.returns-in_err-label
returns-in_err-label c =
    let mark = c.args.mark.now in
    rw (failed_is _ c.from_residual.ensures.1) (front_failed (part_frame mark) c.args.line.now (part_parts mark) c.in_err-label.field-0.0
    c.in_err-label.ensures)

pub returns-in_err-value : goal.returns-in_err-value
returns-in_err-value c =
    let mark = c.args.mark.now in
    rw (failed_is _ c.from_residual-in_err-value.ensures.1) (middle_failed (part_frame mark) c.args.line.now (part_parts mark) (
      c.in_ok-label.label,
      c.in_ok-label.name,
    ) c.in_ok-label.behind c.in_ok-label.ensures.1 c.in_err-value.field-0.0 c.in_err-value.ensures)

pub returns-in_err-privileges : goal.returns-in_err-privileges
returns-in_err-privileges c =
    let mark = c.args.mark.now in
    rw (failed_is _ c.from_residual-in_err-privileges.ensures.1) (tail_failed (part_frame mark) c.args.line.now (part_parts mark) (
      c.in_ok-label.label,
      c.in_ok-label.name,
    ) c.in_ok-label.behind c.in_ok-label.ensures.1 c.in_ok-value.value c.in_ok-value.after c.in_ok-value.ensures c.privileges_at.result
    c.privileges_at.ensures c.in_err-privileges.field-0.0 c.in_err-privileges.ensures)

pub returns : goal.returns
returns c =
    let mark = c.args.mark.now in
    let t = tail_read (part_frame mark) c.args.line.now (part_parts mark) (c.in_ok-label.label, c.in_ok-label.name) c.in_ok-label.behind
    c.in_ok-label.ensures.1 c.in_ok-value.value c.in_ok-value.after c.in_ok-value.ensures c.privileges_at.result c.privileges_at.ensures
    c.in_ok-privileges.privileges c.in_ok-privileges.ensures in
    let part : Part = record
    { name = c.in_ok-label.name; label = c.in_ok-label.label; value = c.in_ok-value.value; privileges = c.in_ok-privileges.privileges } in
    ((t.0.0.1, t.0.0.0, t.0.1, t.0.2), ap ended t.1 ∙ sym (part_text mark part))
