use Rattle.std.proofs.Common.{inr, List, refl, sym, ◌∙◌, ap, subst}
use Rattle.df_keep.specs.Outcome.{IsCutOff}
use Rattle.df_keep.specs.Reading.{blamed}
use Rattle.df_keep.proofs.script.script_in.Goals as goal
use Rattle.df_script_text.specs.declared.line.ScriptLine.{ScriptLine}
use Rattle.df_start.specs.declared.start.RootStart.{RootStart}

pub returns-in-Ok-clause-only : goal.returns-in-Ok-clause-only
returns-in-Ok-clause-only c = λ roots lines fits is.
    let e = c.in-Ok.ensures.only roots lines fits is in
    (ap (λ (p : List RootStart × List ScriptLine). p.0) e, ap (λ (p : List RootStart × List ScriptLine). p.1) e)

pub returns-in-Err-clause-only : goal.returns-in-Err-clause-only
returns-in-Err-clause-only c = λ roots lines fits is.
    subst IsCutOff (sym (c.blamed.ensures ∙ ap blamed (c.in-Err.ensures.only roots lines fits is))) (inr refl)
