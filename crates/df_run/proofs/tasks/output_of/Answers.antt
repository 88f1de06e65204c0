use Rattle.df_run.proofs.Names.{IfErr, IfOk, [], ◌∷◌, sym, subst, IsText, RefusesInput}
use Rattle.df_run.proofs.tasks.output_of.Goals as goal

pub returns-in-Steps-clause-gives : goal.returns-in-Steps-clause-gives
returns-in-Steps-clause-gives c = subst (λ k. IfOk c.journal_of_script.result (λ o. IsText k (c.args.bytes.now ∷ []) o.end o.text.items)) (sym c.in-Steps.is)
    (c.journal_of_script.ensures.gives c.in-Steps.file)

pub returns-in-Steps-clause-refuses : goal.returns-in-Steps-clause-refuses
returns-in-Steps-clause-refuses c = subst (λ k. IfErr c.journal_of_script.result (RefusesInput k c.args.bytes.now)) (sym c.in-Steps.is)
    (c.journal_of_script.ensures.refuses c.in-Steps.file)

pub returns-in-Check-clause-gives : goal.returns-in-Check-clause-gives
returns-in-Check-clause-gives c = subst (λ k. IfOk c.check_of_journal.result (λ o. IsText k (c.args.bytes.now ∷ []) o.end o.text.items)) (sym c.in-Check.is)
    (c.check_of_journal.ensures.gives c.in-Check.journal)

pub returns-in-Check-clause-refuses : goal.returns-in-Check-clause-refuses
returns-in-Check-clause-refuses c = subst (λ k. IfErr c.check_of_journal.result (RefusesInput k c.args.bytes.now)) (sym c.in-Check.is)
    (c.check_of_journal.ensures.refuses c.in-Check.journal)

pub returns-in-Purge-clause-gives : goal.returns-in-Purge-clause-gives
returns-in-Purge-clause-gives c = subst (λ k. IfOk c.purge_of_journal.result (λ o. IsText k (c.args.bytes.now ∷ []) o.end o.text.items)) (sym c.in-Purge.is)
    (c.purge_of_journal.ensures.gives c.in-Purge.journal)

pub returns-in-Purge-clause-refuses : goal.returns-in-Purge-clause-refuses
returns-in-Purge-clause-refuses c = subst (λ k. IfErr c.purge_of_journal.result (RefusesInput k c.args.bytes.now)) (sym c.in-Purge.is)
    (c.purge_of_journal.ensures.refuses c.in-Purge.journal)

pub returns-in-Upgrade-clause-gives : goal.returns-in-Upgrade-clause-gives
returns-in-Upgrade-clause-gives c = subst (λ k. IfOk c.upgrade_of_journal.result (λ o. IsText k (c.args.bytes.now ∷ []) o.end o.text.items))
    (sym c.in-Upgrade.is) (c.upgrade_of_journal.ensures.gives c.in-Upgrade.journal)

pub returns-in-Upgrade-clause-refuses : goal.returns-in-Upgrade-clause-refuses
returns-in-Upgrade-clause-refuses c = subst (λ k. IfErr c.upgrade_of_journal.result (RefusesInput k c.args.bytes.now)) (sym c.in-Upgrade.is)
    (c.upgrade_of_journal.ensures.refuses c.in-Upgrade.journal)

pub returns-in-Why-clause-gives : goal.returns-in-Why-clause-gives
returns-in-Why-clause-gives c = subst (λ k. IfOk c.why_of_journal.result (λ o. IsText k (c.args.bytes.now ∷ []) o.end o.text.items)) (sym c.in-Why.is)
    (c.why_of_journal.ensures.gives c.in-Why.journal)

pub returns-in-Why-clause-refuses : goal.returns-in-Why-clause-refuses
returns-in-Why-clause-refuses c = subst (λ k. IfErr c.why_of_journal.result (RefusesInput k c.args.bytes.now)) (sym c.in-Why.is)
    (c.why_of_journal.ensures.refuses c.in-Why.journal)

pub returns-in-Auction-clause-gives : goal.returns-in-Auction-clause-gives
returns-in-Auction-clause-gives c = subst (λ k. IfOk c.auctions_of_orders.result (λ o. IsText k (c.args.bytes.now ∷ []) o.end o.text.items))
    (sym c.in-Auction.is) (c.auctions_of_orders.ensures.gives c.in-Auction.orders)

pub returns-in-Auction-clause-refuses : goal.returns-in-Auction-clause-refuses
returns-in-Auction-clause-refuses c = subst (λ k. IfErr c.auctions_of_orders.result (RefusesInput k c.args.bytes.now)) (sym c.in-Auction.is)
    (c.auctions_of_orders.ensures.refuses c.in-Auction.orders)

pub returns-in-Lint-clause-gives : goal.returns-in-Lint-clause-gives
returns-in-Lint-clause-gives c = subst (λ k. IfOk c.lint_of_script.result (λ o. IsText k (c.args.bytes.now ∷ []) o.end o.text.items)) (sym c.in-Lint.is)
    (c.lint_of_script.ensures.gives c.in-Lint.script)

pub returns-in-Lint-clause-refuses : goal.returns-in-Lint-clause-refuses
returns-in-Lint-clause-refuses c = subst (λ k. IfErr c.lint_of_script.result (RefusesInput k c.args.bytes.now)) (sym c.in-Lint.is)
    (c.lint_of_script.ensures.refuses c.in-Lint.script)
