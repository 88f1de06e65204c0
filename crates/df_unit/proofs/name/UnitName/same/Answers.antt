use Rattle.std.proofs.Common.{◌≡◌, rules}
use Rattle.df_unit.specs.Name.{same}
use Rattle.df_unit.proofs.SameFacts.{same_name_decides}
use Rattle.df_unit.proofs.name.UnitName.same.Goals as goal

pub returns-then-sub-other_sub-clause-exact : goal.returns-then-sub-other_sub-clause-exact
returns-then-sub-other_sub-clause-exact c =
    let e : c.eq-then-sub-other_sub.result ≡ same c.args.self.now c.args.other.now = search rules in
    rw e (same_name_decides c.args.self.now c.args.other.now)
