use Rattle.df_workers.proofs.step.step.Goals as goal

pub book-requires-clause-turn : goal.book-requires-clause-turn
book-requires-clause-turn g c = record { first = c.args.turn; begun = c.requires.turn; advanced = c.in-Ok.ensures.ok }
