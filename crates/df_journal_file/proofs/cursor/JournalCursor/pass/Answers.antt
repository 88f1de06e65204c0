use Rattle.df_journal_file.proofs.Names.{subst, sym, ◌∙◌, CursorState, HasPassed, IsWholeBy}
use Rattle.df_journal_text.proofs.Between.{all_behind}
use Rattle.df_journal_file.proofs.Texts.{StandIf, lines_stand, passed_lines}
use Rattle.df_journal_file.proofs.cursor.JournalCursor.pass.Goals as goal

pub returns-then-not-starts_with-clause-stands : goal.returns-then-not-starts_with-clause-stands
returns-then-not-starts_with-clause-stands c =
    let at = c.self.inside in
    let value = rw (all_behind at.place at.bytes.now) at c.starts_with.ensures.value in
    subst (StandIf _ c.args.lines.now) c.self.view_is (lines_stand at.has_notes at.bytes.now at.place c.args.lines.now c.if-not-starts_with.true value)

pub returns-clause-stands : goal.returns-clause-stands
returns-clause-stands c =
    let at = c.self.inside in
    let value = rw (all_behind at.place at.bytes.now) at c.starts_with.ensures.value in
    subst (StandIf _ c.args.lines.now) c.self.view_is (lines_stand at.has_notes at.bytes.now at.place c.args.lines.now c.if-not-starts_with.false value)

pub returns-clause-passed : goal.returns-clause-passed
returns-clause-passed c = λ _ roots notes noted h whole spelled.
    let all = all_behind c.self.inside.place c.self.inside.bytes.now in
    let value = rw all at c.starts_with.ensures.value in
    let short = rw all at (c.starts_with.ensures.bound c.if-not-starts_with.false) in
    let read = subst (HasPassed roots notes) (sym c.self.view_is) h in
    let fits = subst (λ (v : CursorState). IsWholeBy v.has_notes noted) (sym c.self.view_is) whole in
    passed_lines _ _ roots notes noted _ _ read fits spelled short (sym c.if-not-starts_with.false ∙ value)
