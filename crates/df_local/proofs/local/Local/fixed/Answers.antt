use Rattle.df_local.proofs.Names.{subst, sym, IsAccounted}
use Rattle.df_local.proofs.Begun.{fixed_accounted}
use Rattle.df_local.proofs.local.Local.fixed.Goals as goal

pub returns-clause-accounted : goal.returns-clause-accounted
returns-clause-accounted c =
    subst IsAccounted (sym c.in_ok-fixed.ensures) (fixed_accounted c.args.self.now.own c.args.filter.now c.tags_are_accounted_for.ensures)
