use Rattle.std.proofs.Common.{[], ◌∷◌}
use Rattle.std.proofs.lemmas.Result.{on_ok_weaker}
use Rattle.df_unit.specs.declared.name.UnitName.TheVariants.{Root}
use Rattle.df_steps.proofs.Appending.{appends_step}
use Rattle.df_steps.proofs.step.append_common.Goals as goal

pub append_common-requires-clause-seated : goal.append_common-requires-clause-seated
append_common-requires-clause-seated c = (Root (c.args.line.root ∷ []), c.root-place.ensures)

pub returns : goal.returns
returns c =
    on_ok_weaker c.append_common.result
    (λ enters core agrees. appends_step (enters core (Root (c.args.line.root ∷ [])) agrees c.root-place.ensures c.requires.words))
    c.append_common.ensures
