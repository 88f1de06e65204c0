use Rattle.std.proofs.lemmas.Slice.Eq.{slice_eq-Decides}
use Rattle.df_label.proofs.SetFacts.{eq_by_cmp-Decides}
use Rattle.df_label.proofs.PrivilegeFacts.{privilege_cmp_exact}
use Rattle.df_label.specs.Privilege.{privilege_cmp}
use Rattle.df_label.proofs.privileges.same.Goals as goal

pub returns : goal.returns
returns c = slice_eq-Decides (eq_by_cmp-Decides privilege_cmp privilege_cmp_exact) _ _ _ c.eq.ensures
