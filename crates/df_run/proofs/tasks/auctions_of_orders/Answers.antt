use Rattle.df_run.proofs.tasks.auctions_of_orders.Goals as goal

pub returns-in-Err-clause-refuses : goal.returns-in-Err-clause-refuses
returns-in-Err-clause-refuses c orders = c.blamed.ensures c.args.bytes.now orders c.in-Err.ensures.refused
