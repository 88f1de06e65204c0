-- The calls get, create, publish, release and drop.
use Rattle.df_unit.specs.declared.call.Call.{Call}
use Rattle.df_unit.specs.declared.call.Call.TheVariants as call
use Rattle.df_journal_text.specs.declared.ask.Ask.{Ask}
use Rattle.df_journal_text.specs.declared.ask.Ask.TheVariants as ask

-- the call itself
abbrev pub asked : Ask → Call
asked ask.Get = call.Get
asked ask.Create = call.CreateEvent
asked (ask.Publish h) = call.Publish h
asked (ask.Release h) = call.Release h
asked (ask.Drop h) = call.DropEvent h
