use Rattle.df_durable.proofs.Keepings.{newest_is}
use Rattle.df_durable.proofs.keeping.make_spelled.Goals as goal

pub returns-in-Ok-clause-spelled : goal.returns-in-Ok-clause-spelled
returns-in-Ok-clause-spelled c = newest_is c.args.core.now c.args.actor.now c.args.call.now c.make_call.new.core c.in-Ok.text.items
    c.in_ok-reply.ensures.entry c.in-Ok.ensures
