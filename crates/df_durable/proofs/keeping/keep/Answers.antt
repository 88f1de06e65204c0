use Rattle.df_durable.proofs.Names.{◌∙◌}
use Rattle.df_durable.proofs.keeping.keep.Goals as goal

pub returns-in-Ok-clause-any_moment : goal.returns-in-Ok-clause-any_moment
returns-in-Ok-clause-any_moment g c = λ records rests.
    c.append.ensures.any_moment records c.args.text.now (c.deref.ensures.value ∙ c.in_ok-framed.ensures) rests

pub returns-clause-any_moment : goal.returns-clause-any_moment
returns-clause-any_moment g c = λ records rests.
    c.append.ensures.any_moment records c.args.text.now (c.deref.ensures.value ∙ c.in_ok-framed.ensures) rests
