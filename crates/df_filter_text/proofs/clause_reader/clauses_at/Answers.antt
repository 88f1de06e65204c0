use Rattle.df_filter_text.proofs.Names.{length, sym, ap, ◌∙◌, arith, [], ◌∷◌, ◌++◌, inl, inr, length_push}
use Rattle.df_format.proofs.Laws.{failed_is}
use Rattle.df_value_text.proofs.Loops.{fails_by}
use Rattle.df_filter_text.proofs.ClauseSteps.{clauses_begun, clause_read, clause_failed, clauses_done}
use Rattle.df_filter_text.proofs.clause_reader.clauses_at.Goals.{then-more-test+else-byte_stands, else-more-test}
use Rattle.df_filter_text.proofs.clause_reader.clauses_at.Goals as goal

pub more-init : goal.more-init
more-init c =
    let is = c.in_ok-push.ensures.items ∙ ap (λ xs. xs ++ c.in_ok-first.first ∷ []) c.new-clauses.ensures.items in (
      c.in_ok-first.ensures.0,
      omega (arith, c.in_ok-push.ensures.len, c.new-clauses.ensures.len, ap length is),
      clauses_begun c.args.bytes.now c.args.at c.in_ok-first.start c.in_ok-first.first c.push.new.self.items c.in_ok-first.ensures.1 is,
    )

pub returns-in_err-clause : goal.returns-in_err-clause
returns-in_err-clause c =
    let inv = c.more.invariant in
    rw (failed_is _ c.from_residual-in_err-clause.ensures.1) (fails_by c.in_err-clause.field-0.0 c.args.bytes.now _ _
    (clause_failed inv.2 (omega (arith, c.len.ensures, inv.1, c.more-test.true)) (sym c.byte_stands.ensures ∙ c.if-byte_stands.true)) c.in_err-clause.ensures)

pub more-preserved : goal.more-preserved
more-preserved c =
    let inv = c.more.invariant in (
      c.in_ok-clause.ensures.0,
      omega (arith, c.in_ok-push-2.ensures.len, inv.1, ap length c.in_ok-push-2.ensures.items, length_push c.more.clauses.items c.in_ok-clause.clause),
      clause_read inv.2 (omega (arith, c.len.ensures, inv.1, c.more-test.true)) (sym c.byte_stands.ensures ∙ c.if-byte_stands.true)
          c.in_ok-clause.clause c.in_ok-clause.after c.push-in-more.new.self.items c.in_ok-clause.ensures.1 c.in_ok-push-2.ensures.items,
    )

pub returns : goal.returns
returns c =
    let inv = c.more.invariant in (
      inv.0,
      elim c.more-test.branch [
        | then-more-test+else-byte_stands w ↦ clauses_done inv.2 (inl (sym w.byte_stands.ensures ∙ w.if-byte_stands.false))
        | else-more-test w ↦ clauses_done inv.2 (inr (omega (arith, c.len.ensures, inv.1, w.more-test.false)))
      ],
    )
