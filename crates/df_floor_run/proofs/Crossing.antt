-- The brains of a floor may cross threads, and threads may share them.
use Rattle.df_floor_run.proofs.Names.{IsSend, IsSync, sendable, crosses}
use Rattle.df_book.proofs.tree.Tree.TheLaws.TheKnot as knot
use Rattle.df_book.specs.contracts.book.Book as Book
use Rattle.df_book.specs.contracts.entry.Entry as Entry
use Rattle.df_book.specs.contracts.place.Place as Place
use Rattle.df_book.specs.contracts.place.Rest as Rest
use Rattle.df_book.specs.contracts.trade.Trade as Trade
use Rattle.df_book.specs.contracts.trade.Trades as Trades
use Rattle.df_book.specs.contracts.tree.Tree as Tree
use Rattle.df_floor_units.specs.contracts.book.FloorBook as FloorBook
use Rattle.df_floor_units.specs.contracts.brain.FloorBrain as FloorBrain
use Rattle.df_floor_units.specs.contracts.broker.Broker as Broker
use Rattle.df_floor_units.specs.contracts.heard.Heard as Heard
use Rattle.df_floor_units.specs.contracts.kind.Kind as Kind
use Rattle.df_floor_units.specs.contracts.stage.Stage as Stage
use Rattle.df_floor_units.specs.contracts.ticks.Ticks as Ticks
use Rattle.df_floor_units.specs.contracts.trader.Trader as Trader
use Rattle.df_floor_units.specs.contracts.trades.FloorTrades as FloorTrades
use Rattle.df_frozen.specs.contracts.words.Words as Words
use Rattle.df_messages.specs.contracts.message.Match as Match
use Rattle.df_messages.specs.contracts.message.Offer as Offer
use Rattle.df_messages.specs.contracts.message.Parties as Parties
use Rattle.df_messages.specs.contracts.symbol.Symbol as Symbol
use Rattle.df_pairs.specs.contracts.pair.Pair as Pair
use Rattle.df_pairs.specs.contracts.recent.Recent as Recent
use Rattle.df_pairs.specs.contracts.signal.Signal as Signal
use Rattle.df_ticks.specs.contracts.tick.Tick as Tick

pub words_send : IsSend Words.the_row
words_send = search (sendable, crosses) depth 40 fits 20000

pub words_sync : IsSync Words.the_row
words_sync = search (sendable, crosses) depth 40 fits 20000

pub symbol_send : IsSend Symbol.the_row
symbol_send = search (words_send, sendable, crosses) depth 40 fits 20000

pub symbol_sync : IsSync Symbol.the_row
symbol_sync = search (words_sync, sendable, crosses) depth 40 fits 20000

pub tick_field_send : IsSend (Tick.the_field).row
tick_field_send = search (words_send, sendable, crosses) depth 40 fits 20000

pub tick_field_sync : IsSync (Tick.the_field).row
tick_field_sync = search (words_sync, sendable, crosses) depth 40 fits 20000

pub tick_send : IsSend Tick.the_row
tick_send = search (tick_field_send, sendable) depth 40

pub tick_sync : IsSync Tick.the_row
tick_sync = search (tick_field_sync, sendable) depth 40

pub ticks_send : IsSend Ticks.the_row
ticks_send = search (tick_send, tick_sync, sendable, crosses) depth 40 fits 20000

pub ticks_sync : IsSync Ticks.the_row
ticks_sync = search (tick_send, tick_sync, sendable, crosses) depth 40 fits 20000

pub tree_send : IsSend Tree.the_row
tree_send = search (knot.crosses, sendable, crosses) depth 40 fits 20000

pub tree_sync : IsSync Tree.the_row
tree_sync = search (knot.crosses, sendable, crosses) depth 40 fits 20000

pub book_send : IsSend Book.the_row
book_send = search (tree_send, sendable, crosses) depth 40 fits 20000

pub book_sync : IsSync Book.the_row
book_sync = search (tree_sync, sendable, crosses) depth 40 fits 20000

pub pair_send : IsSend Pair.the_row
pair_send = search (sendable, crosses) depth 40 fits 20000

pub pair_sync : IsSync Pair.the_row
pair_sync = search (sendable, crosses) depth 40 fits 20000

pub broker_field_send : IsSend (Broker.the_field).row
broker_field_send = search (book_send, sendable, crosses) depth 40 fits 20000

pub broker_field_sync : IsSync (Broker.the_field).row
broker_field_sync = search (book_sync, sendable, crosses) depth 40 fits 20000

pub trader_field_send : IsSend (Trader.the_field).row
trader_field_send = search (sendable, crosses) depth 40

pub trader_field_sync : IsSync (Trader.the_field).row
trader_field_sync = search (sendable, crosses) depth 40

pub kind_field_send : IsSend (Kind.the_field).row
kind_field_send = search (ticks_send, broker_field_send, trader_field_send, symbol_send, pair_send, sendable, crosses) depth 40 fits 20000

pub kind_field_sync : IsSync (Kind.the_field).row
kind_field_sync = search (ticks_sync, broker_field_sync, trader_field_sync, symbol_sync, pair_sync, sendable, crosses) depth 40 fits 20000

pub trade_field_send : IsSend (Trade.the_field).row
trade_field_send = search (words_send, sendable, crosses) depth 40 fits 20000

pub trade_field_sync : IsSync (Trade.the_field).row
trade_field_sync = search (words_sync, sendable, crosses) depth 40 fits 20000

pub trade_send : IsSend Trade.the_row
trade_send = search (trade_field_send, sendable) depth 40

pub trade_sync : IsSync Trade.the_row
trade_sync = search (trade_field_sync, sendable) depth 40

pub trades_send : IsSend FloorTrades.the_row
trades_send = search (trade_send, sendable, crosses) depth 40 fits 20000

pub trades_sync : IsSync FloorTrades.the_row
trades_sync = search (trade_sync, sendable, crosses) depth 40 fits 20000

pub heard_field_send : IsSend (Heard.the_field).row
heard_field_send = search (trades_send, symbol_send, sendable, crosses) depth 40 fits 20000

pub heard_field_sync : IsSync (Heard.the_field).row
heard_field_sync = search (trades_sync, symbol_sync, sendable, crosses) depth 40 fits 20000

pub stage_field_send : IsSend (Stage.the_field).row
stage_field_send = search (sendable) depth 40

pub stage_field_sync : IsSync (Stage.the_field).row
stage_field_sync = search (sendable) depth 40

pub floor_brain_send : IsSend FloorBrain.the_row
floor_brain_send = search (kind_field_send, heard_field_send, stage_field_send, sendable, crosses) depth 40 fits 20000

pub floor_brain_sync : IsSync FloorBrain.the_row
floor_brain_sync = search (kind_field_sync, heard_field_sync, stage_field_sync, sendable, crosses) depth 40 fits 20000
