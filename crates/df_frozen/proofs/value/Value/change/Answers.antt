use Rattle.df_frozen.proofs.Places.{Changes-push}
use Rattle.df_frozen.proofs.value.Value.change.Goals as goal

pub returns-in-Items : goal.returns-in-Items
returns-in-Items c = rw (c.in-Push.is, c.in-Items.is) (Changes-push c.in-Push.value c.in-Items.items c.push.new.self c.push.result c.push.ensures.pushed c.push.ensures.unchanged c.push.ensures.back c.push.ensures.cause)
