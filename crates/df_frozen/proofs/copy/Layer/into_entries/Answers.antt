use Rattle.std.proofs.Common.{◌≡◌, ap, map}
use Rattle.df_frozen.specs.Plain.{entries, from_pairs}
use Rattle.df_frozen.specs.Value.{named}
use Rattle.df_frozen.proofs.Copies.{entries_whole, ascending_whole}
use Rattle.df_frozen.proofs.copy.Layer.into_entries.Goals as goal

-- all entries are copied
whole : (c : goal.In-Map) → map named c.in-Map.made.items ≡ c.in-Map.from.now
whole c = entries_whole c.in-Map.made.items c.in-Map.from.now (rw c.in-Map.is at c.requires.copied).0 (rw c.in-Map.is at c.requires.whole)

pub returns-clause-value : goal.returns-clause-value
returns-clause-value c = rw c.in-Map.is (ap (λ l. entries (from_pairs l)) (whole c))

pub returns-clause-ascending : goal.returns-clause-ascending
returns-clause-ascending c = ascending_whole c.in-Map.made.items c.in-Map.from.now (whole c) (rw c.in-Map.is at c.requires.copied).1
