use Rattle.df_run.proofs.Names.{List, ℕ, [], ◌∷◌, ◌++◌, ap, refl, sym, subst, ◌∙◌, err_from_is_err_and, NamesBadLine, IsScriptText, IsTooLargeIn}
use Rattle.df_journal_text.specs.Start.{head_text}
use Rattle.df_steps.proofs.Journals.{written_none}
use Rattle.df_steps.proofs.Sound.{journal_is_sound, journal_is_unaided}
use Rattle.df_run.proofs.steps.journal_of.Goals as goal

pub lines-init : goal.lines-init
lines-init c = (
  [],
  c.requires,
  written_none c.args.start c.in_ok-tables.tables c.write_head.new.to.items c.in_ok-tables.ensures
      (c.in_ok-write_head.ensures.ok ∙ ap (λ (t : List ℕ). t ++ head_text c.args.start) c.in_ok-text.ensures),
  refl,
)

pub append_next-requires : goal.append_next-requires
append_next-requires c = (c.args.start, c.lines.invariant.0, (c.lines.invariant.1, c.lines.invariant.2))

pub lines-preserved : goal.lines-preserved
lines-preserved c =
    let past = c.lines.invariant.0 in
    let on = rw c.if-branch.true at (c.in_ok-append_next.ensures.written_on c.args.start past (c.lines.invariant.1, c.lines.invariant.2)) in
    (past ++ on.0 ∷ [], on.1, on.2, c.append_next.ensures.bytes ∙ c.lines.invariant.3)

pub returns-clause-records : goal.returns-clause-records
returns-clause-records c =
    let lines = c.lines.invariant.0 in
    let all = rw c.if-branch.false at (c.in_ok-append_next.ensures.written_on c.args.start lines (c.lines.invariant.1, c.lines.invariant.2)) in (
      c.args.start,
      lines,
      all.0,
      sym (c.append_next.ensures.bytes ∙ c.lines.invariant.3) ∙ all.1,
      all.2.text,
      journal_is_unaided c.args.start lines,
      journal_is_sound c.args.start lines,
    )

pub returns-in_err-append_next-clause-refuses : goal.returns-in_err-append_next-clause-refuses
returns-in_err-append_next-clause-refuses c =
    let p = err_from_is_err_and c.from_residual-in_err-append_next.result c.from_residual-in_err-append_next.ensures.1 in
    rw (p.1, p.2)
    (subst (λ (bytes : List ℕ). NamesBadLine IsScriptText IsTooLargeIn bytes c.in_err-append_next.field-0.0) c.lines.invariant.3
    (c.in_err-append_next.ensures.refused c.args.start c.lines.invariant.0 c.lines.invariant.1))
