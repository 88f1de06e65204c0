use Rattle.std.proofs.Common.{◌<◌, length, rules, sym, subst}
use Rattle.df_local.specs.Births.{IsAccounted, record_of}
use Rattle.df_instances.specs.declared.subscription.ManagedSubscription.{ManagedSubscription}
use Rattle.df_instances.proofs.managed.Managed.get.Goals as goal

pub returns-clause-accounted : goal.returns-clause-accounted
returns-clause-accounted c =
    let within : c.args.place < length c.self.inside.subscriptions.items = search rules in
    subst (λ (m : ManagedSubscription). IsAccounted (record_of m.fixed)) (sym c.index.ensures)
    (c.self.invariant.accounted c.args.place c.index.result.now within)
