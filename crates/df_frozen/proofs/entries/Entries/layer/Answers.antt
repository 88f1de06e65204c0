use Rattle.std.proofs.Common.{subst}
use Rattle.df_frozen.specs.Entries.{names, IsAscending}
use Rattle.df_frozen.proofs.Named.{names-named}
use Rattle.df_frozen.proofs.entries.Entries.layer.Goals as goal

pub returns-clause-fresh : goal.returns-clause-fresh
returns-clause-fresh c = (c.new.ensures.items, subst (λ l. IsAscending (names l)) c.self.view_is (rw (names-named c.self.inside.entries.items) c.self.invariant))
