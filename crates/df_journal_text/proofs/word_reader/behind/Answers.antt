use Rattle.df_journal_text.proofs.Names.{drop, sym, ◌∙◌}
use Rattle.df_journal_text.proofs.Between.{all_behind, begins_at, begins_not}
use Rattle.df_journal_text.proofs.word_reader.behind.Goals as goal

pub returns-then-not-starts_with : goal.returns-then-not-starts_with
returns-then-not-starts_with c =
    let value = rw (all_behind c.args.at c.args.bytes.now) at c.starts_with.ensures.value in
    begins_not c.args.text.now (drop c.args.at c.args.bytes.now) (sym c.if-not-starts_with.true ∙ value)

pub returns : goal.returns
returns c =
    let all = all_behind c.args.at c.args.bytes.now in
    let value = rw all at c.starts_with.ensures.value in
    let short = rw all at (c.starts_with.ensures.bound c.if-not-starts_with.false) in
    begins_at c.args.text.now c.args.bytes.now c.args.at c.requires short (sym c.if-not-starts_with.false ∙ value)
