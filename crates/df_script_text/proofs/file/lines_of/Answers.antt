use Rattle.df_script_text.proofs.Names.{List, ℕ, sym, subst, ◌∙◌, failed_is, NamesBadLine, HasRead, IsScriptText, IsTooLargeIn, ScriptLine}
use Rattle.df_script_text.proofs.file.lines_of.Goals as goal

pub returns-in_err-read-clause-refused : goal.returns-in_err-read-clause-refused
returns-in_err-read-clause-refused c =
    rw (failed_is _ c.from_residual.ensures.1)
    (λ roots h. subst (λ (bytes : List ℕ). NamesBadLine IsScriptText IsTooLargeIn bytes c.in_err-read.field-0.0) c.lines.invariant.0
    (c.in_err-read.ensures.refused roots c.lines.lines.items (c.lines.invariant.1 roots h)))

pub lines-preserved : goal.lines-preserved
lines-preserved c = (
  c.in_ok-read.ensures.bytes ∙ c.lines.invariant.0,
  λ roots h. subst (λ (ls : List ScriptLine). HasRead roots ls c.next_line.new.self) (sym c.in_ok-push_line.ensures)
      (rw c.in-Some.is at (c.in_ok-read.ensures.next roots c.lines.lines.items (c.lines.invariant.1 roots h))),
)

pub returns-clause-read : goal.returns-clause-read
returns-clause-read c = λ roots h.
    let all = (rw c.in_default.is at (c.in_ok-read.ensures.next roots c.lines.lines.items (c.lines.invariant.1 roots h))) in
    (all.0, sym (c.in_ok-read.ensures.bytes ∙ c.lines.invariant.0) ∙ all.1)
