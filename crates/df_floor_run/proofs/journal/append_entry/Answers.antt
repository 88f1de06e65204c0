use Rattle.df_floor_run.proofs.Names.{Option, ◌++◌, ap, ◌∙◌, on_ok_weaker, entry_text}
use Rattle.df_label.specs.declared.label.Label.{Label}
use Rattle.df_replay.proofs.Comparing.{on_ok_always}
use Rattle.df_floor_run.proofs.journal.append_entry.Goals as goal

pub returns-clause-text : goal.returns-clause-text
returns-clause-text c =
    on_ok_weaker c.write_noting.result
    (λ written core agrees.
    written ∙ ap (λ (note : Option Label). c.args.text.now.items ++ entry_text note c.args.kept.now) (c.in_ok-contamination.ensures.contamination core agrees))
    c.write_noting.ensures.ok

pub returns-clause-made : goal.returns-clause-made
returns-clause-made c = on_ok_always c.write_noting.result (λ core agrees. c.in_ok-contamination.ensures.made core agrees)
