use Rattle.std.proofs.Common.{◌∙◌, List, sym, arith}
use Rattle.std.specs.List.Sorted.{IsStrictlySortedBy}
use Rattle.std.proofs.lemmas.List.{at_drop_all}
use Rattle.df_filter.specs.declared.clause.Clause.{Clause}
use Rattle.df_managed.specs.code.Chosen.{comes_to}
use Rattle.df_managed.proofs.Choosing.{begun, ended}
use Rattle.df_managed.proofs.chosen.all_chosen.Goals as goal

pub loop-clause-init : goal.loop-clause-init
unfolding IsStrictlySortedBy
loop-clause-init c = (
  λ t. rw (c.in_ok-chosen.ensures.stale, c.in_ok-chosen.ensures.fresh)
      (begun c.args.clauses.now c.args.integrity.now t c.args.base.now c.args.old.now c.args.added.now),
  rw c.in_ok-chosen.ensures.fresh tt,
)

pub returns-clause-given : goal.returns-clause-given
returns-clause-given c t =
    let stale = c.loop-clause.chosen.stale.items in
    let fresh = c.loop-clause.chosen.fresh.items in
    let left = λ (l : List Clause). comes_to l c.args.integrity.now t c.args.old.now c.args.added.now stale fresh in
    sym (ended c.args.integrity.now t c.args.old.now c.args.added.now stale fresh)
    ∙ sym (at_drop_all left c.args.clauses.now c.loop-clause.clause-index (omega arith))
    ∙ c.loop-clause.invariant.0 t
