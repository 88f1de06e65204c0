use Rattle.df_journal_text.proofs.Names.{failed_is}
use Rattle.df_journal_text.proofs.ValueTells.{found_tells, no_space, refused_tells}
use Rattle.df_journal_text.proofs.value_word.read_value_word.Goals as goal

pub returns-in_err-value : goal.returns-in_err-value
returns-in_err-value c =
    let e = c.in_err-value.ensures in
    rw (failed_is _ c.from_residual-in_err-value.ensures.1) (refused_tells c.args.bytes.now c.args.at c.in_ok-start.start c.in_ok-start.ensures.exact.1
    c.in_err-value.field-0.0 e.only e.too_large e.over e.order)

pub returns : goal.returns
returns c = found_tells c.args.bytes.now c.args.at c.in_ok-start.start c.in_ok-start.ensures.exact.1 c.in_ok-value.value c.in_ok-value.end
    c.in_ok-value.ensures.found

pub returns-in_err-start : goal.returns-in_err-start
returns-in_err-start c =
    rw (failed_is _ c.from_residual.ensures.1) (no_space c.args.bytes.now c.args.at c.in_err-start.field-0.0 c.in_err-start.ensures.exact)
