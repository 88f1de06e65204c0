use Rattle.std.proofs.Common.{subst}
use Rattle.df_frozen.specs.Entries.{names, IsAscending}
use Rattle.df_frozen.proofs.Named.{names-named}
use Rattle.df_frozen.proofs.entries.Entries.as_slice.Goals as goal

pub returns-clause-ascending : goal.returns-clause-ascending
returns-clause-ascending c = subst (λ l. IsAscending (names l)) c.self.view_is (rw (names-named c.self.inside.entries.items) c.self.invariant)
