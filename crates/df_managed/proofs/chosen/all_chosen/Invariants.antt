use Rattle.std.proofs.Common.{◌≡◌, drop, false}
use Rattle.std.specs.List.Sorted.{IsStrictlySortedBy}
use Rattle.df_label.specs.TagSet.{tag_set_cmp}
use Rattle.df_managed.specs.code.Chosen.{Tags, comes_to}
use Rattle.df_rules.specs.Choices.{gives}
use Rattle.df_managed.proofs.chosen.all_chosen.Given as goal

abbrev pub invariant-loop-clause : goal.invariant-loop-clause
invariant-loop-clause l =
    ((t : Tags) → comes_to (drop l.clause-index l.clauses) l.integrity t l.old l.added l.chosen.stale.items l.chosen.fresh.items ≡ gives l.clauses
    l.integrity t l.base false l.old l.added)
    × IsStrictlySortedBy tag_set_cmp l.chosen.fresh.items
