use Rattle.std.proofs.Common.{[], ◌∷◌}
use Rattle.std.proofs.lemmas.Result.{on_ok_weaker}
use Rattle.df_unit.specs.declared.name.UnitName.TheVariants.{Root}
use Rattle.df_steps.proofs.Appending.{appends_step}
use Rattle.df_steps.proofs.step.append_root.Goals as goal

pub append_call-appended-requires-clause-seated : goal.append_call-appended-requires-clause-seated
append_call-appended-requires-clause-seated c = (Root (c.args.line.root ∷ []), c.root-place.ensures)

pub returns : goal.returns
returns c =
    on_ok_weaker c.append_call-appended.result
    (λ enters core agrees. appends_step (enters core (Root (c.args.line.root ∷ [])) agrees c.root-place.ensures c.requires.words))
    c.append_call-appended.ensures
