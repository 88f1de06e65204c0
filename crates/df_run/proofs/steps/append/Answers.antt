use Rattle.df_run.proofs.steps.append.Goals as goal

pub returns : goal.returns
returns c = c.append_step-appended.ensures
