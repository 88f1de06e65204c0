-- The calls that create an event or drop one.
use Rattle.std.specs.Prelude.{◌≡◌, Option, None, Some}
use Rattle.df_unit.specs.declared.call.Call.{Call}
use Rattle.df_unit.specs.declared.call.Call.TheVariants.{CreateEvent, DropEvent}
use Rattle.df_unit.specs.declared.reply.Reply.{Reply}
use Rattle.df_unit.specs.declared.reply.Reply.TheVariants as reply
use Rattle.df_local.specs.Locally.{IsMadeAlone}
use Rattle.df_local.specs.code.LocalState.{LocalState}
use Rattle.df_local.specs.declared.brief.Accepted.{Accepted}
use Rattle.df_local.specs.declared.brief.Accepted.TheVariants as accepted
use Rattle.df_local.specs.declared.brief.Brief.{Brief}
use Rattle.df_local.specs.declared.brief.Brief.TheVariants as brief

-- the call itself
abbrev pub brief_call : Brief → Call
brief_call brief.Create = CreateEvent
brief_call (brief.Drop h) = DropEvent h

-- the reply where it is accepted
abbrev pub accepted_reply : Accepted → Reply
accepted_reply (accepted.Handle h) = reply.Handle h
accepted_reply accepted.Ok = reply.Ok

-- such a call is made, with this reply; or nothing is done
abbrev pub MakesBriefly : Brief → Option Accepted → LocalState → LocalState → Type 0
MakesBriefly b (Some a) old new = IsMadeAlone (brief_call b) (accepted_reply a) old new
MakesBriefly b None old new = new ≡ old
