-- Names and values may cross threads.
use denote.Param.Send.{IsSend, IsSync, sendable}
use Rattle.std.proofs.Crossing.{crosses}
use Rattle.df_frozen.proofs.entries.Entries.TheLaws.TheKnot as knot
use Rattle.df_frozen.specs.contracts.frozen.Frozen as Frozen
use Rattle.df_frozen.specs.contracts.name.Name as Name
use Rattle.df_frozen.specs.contracts.value.Value as Value
use Rattle.df_frozen.specs.contracts.words.Words as Words

pub name_send : IsSend Name.the_row
name_send = search (sendable, crosses) depth 40 fits 20000

pub name_sync : IsSync Name.the_row
name_sync = search (sendable, crosses) depth 40 fits 20000

pub words_send : IsSend Words.the_row
words_send = search (sendable, crosses) depth 40 fits 20000

pub value_send : IsSend Value.the_row
value_send = search (knot.crosses, sendable, crosses) depth 40 fits 20000

pub value_sync : IsSync Value.the_row
value_sync = search (knot.crosses, sendable, crosses) depth 40 fits 20000

pub frozen_send : IsSend Frozen.the_row
frozen_send = search (value_send, value_sync, sendable, crosses) depth 40 fits 20000

pub frozen_sync : IsSync Frozen.the_row
frozen_sync = search (value_send, value_sync, sendable, crosses) depth 40 fits 20000

pub ruleset values = (
  name_send,
  name_sync,
  words_send,
  value_send,
  value_sync,
  frozen_send,
  frozen_sync,
)
