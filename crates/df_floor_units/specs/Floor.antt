-- The units of the floor as step functions: what each wants by the replies to it.
use Rattle.std.specs.Prelude.{ℕ, ◌+◌, Bool, true, false, if◌then◌else◌, nat_lt, List, [], length, Option, Some, None, slice_get}
use Rattle.df_messages.specs.declared.draft.Draft.{Draft}
use Rattle.df_rules.specs.Follows as follows
use Rattle.df_unit.specs.declared.call.Call.{Call}
use Rattle.df_unit.specs.declared.call.Call.TheVariants.{AddPart, ChangeOutLabel, CreateEvent, DropEvent, Publish, ReadPart, Subscribe, SubscribeManaged}
use Rattle.df_unit.specs.declared.parts.PartRead.{PartRead}
use Rattle.df_unit.specs.declared.reply.Reply.{Reply}
use Rattle.df_floor_units.specs.Hearing.{acted_heard, acted_kind, heard_of, reads_of}
use Rattle.df_floor_units.specs.Opening.{opening}
use Rattle.df_floor_units.specs.Telling.{parts_of, passed_heard, passed_kind}
use Rattle.df_floor_units.specs.declared.heard.Heard.{Heard}
use Rattle.df_floor_units.specs.declared.heard.Heard.TheVariants as heard
use Rattle.df_floor_units.specs.declared.kind.Kind.{Kind}
use Rattle.df_floor_units.specs.declared.kind.Kind.TheVariants as kind
use Rattle.df_floor_units.specs.declared.stage.Stage.{Stage}
use Rattle.df_floor_units.specs.declared.stage.Stage.TheVariants as stage

-- a unit: what it is and remembers, what it knows of the last event, and which call is out
pub record Mind : Type 0 where
  pub kind : Kind
  pub heard : Heard
  pub stage : Stage

-- before the next call of the opening; what is to be told follows the last one
abbrev pub opened : Kind → Stage → ℕ → Stage
opened k rest place = if nat_lt place (length (opening k)) then stage.Opens place else rest

-- before the next event that is told, or at rest where there is none
abbrev pub told : List Draft → Stage
told ds = if nat_lt 0 (length ds) then stage.Creates else stage.Rests

-- before the next read of an event, or its drop
abbrev pub reading : Kind → ℕ → ℕ → ℕ → Stage
reading k h sub place =
    if nat_lt place (length (reads_of k sub)) then stage.Reads h sub place else stage.Drops h

-- an event that no read is made of isn't foreseen
abbrev pub handed : Kind → ℕ → ℕ → Stage
handed k h sub =
    if nat_lt 0 (length (reads_of k sub)) then stage.Reads h sub 0 else stage.StoppedDrops h

-- before the next part that is added to a draft, or its publish
abbrev pub adding : List Draft → ℕ → ℕ → Stage
adding ds h place = if nat_lt place (length ds) then stage.Adds h place else stage.Publishes h

-- whether this is a call that lets something out, which is answered by Ok
abbrev pub is_release : Option Call → Bool
is_release (Some (ChangeOutLabel half act tag)) = true
is_release _ = false

-- whether this is a subscription, which is answered by its number
abbrev pub is_subscription : Option Call → Bool
is_subscription (Some (Subscribe filter)) = true
is_subscription (Some (SubscribeManaged filter)) = true
is_subscription _ = false

-- what follows a reply
pub data Follow : Type 0 where
  -- the next call, and nothing is done
  Goes : Stage → Follow
  -- an event came
  Takes : (h sub : ℕ) → Follow
  -- parts were read
  Hears : (h sub place : ℕ) → List PartRead → Follow
  -- the event is dropped
  Acts : Follow
  -- an event was told
  Passes : Follow

-- behind a call of the opening that was answered as it should be
abbrev pub opened_next : Mind → ℕ → Bool → Follow
opened_next m place good =
    if good then Goes (opened m.kind (told (parts_of m.kind m.heard)) (place + 1))
    else Goes stage.Stopped

-- after a call of the opening
abbrev pub after_opening : Mind → ℕ → Reply → Follow
after_opening m place Reply.Ok =
    opened_next m place (is_release (slice_get (opening m.kind) place))
after_opening m place (Reply.Sub n) =
    opened_next m place (is_subscription (slice_get (opening m.kind) place))
after_opening m place _ = Goes stage.Stopped

-- after a get
abbrev pub after_rest : Reply → Follow
after_rest (Reply.Event h sub) = Takes h sub
after_rest _ = Goes stage.Stopped

-- after a read; where no part is there, none was read
abbrev pub after_read : ℕ → ℕ → ℕ → Reply → Follow
after_read h sub place (Reply.Parts ps) = Hears h sub place ps
after_read h sub place Reply.NoSuchPart = Hears h sub place []
after_read h sub place _ = Goes stage.Stopped

-- after a drop
abbrev pub after_drop : Reply → Follow
after_drop Reply.Ok = Acts
after_drop _ = Goes stage.Stopped

-- after a create
abbrev pub after_create : Mind → Reply → Follow
after_create m (Reply.Handle h) = Goes (adding (parts_of m.kind m.heard) h 0)
after_create m _ = Goes stage.Stopped

-- after an add
abbrev pub after_add : Mind → ℕ → ℕ → Reply → Follow
after_add m h place Reply.Ok = Goes (adding (parts_of m.kind m.heard) h (place + 1))
after_add m h place _ = Goes stage.Stopped

-- after a publish
abbrev pub after_publish : Reply → Follow
after_publish Reply.Ok = Passes
after_publish _ = Goes stage.Stopped

-- a stopped unit drops what it is handed, and else waits
abbrev pub after_stop : Reply → Follow
after_stop (Reply.Event h sub) = Goes (stage.StoppedDrops h)
after_stop _ = Goes stage.Stopped

-- what follows a reply, by the call that was out; a reply that isn't foreseen stops the unit
abbrev pub follow_of : Mind → Stage → Reply → Follow
follow_of m stage.Fresh r = Goes stage.Stopped
follow_of m (stage.Opens place) r = after_opening m place r
follow_of m stage.Rests r = after_rest r
follow_of m (stage.Reads h sub place) r = after_read h sub place r
follow_of m (stage.Drops h) r = after_drop r
follow_of m stage.Creates r = after_create m r
follow_of m (stage.Adds h place) r = after_add m h place r
follow_of m (stage.Publishes h) r = after_publish r
follow_of m stage.Stopped r = after_stop r
follow_of m (stage.StoppedDrops h) r = Goes stage.Stopped

-- at rest, or before the next event that is told
abbrev pub tells : Kind → Heard → Mind
tells k h = record { kind = k; heard = h; stage = told (parts_of k h) }

-- the unit after what follows
abbrev pub did : Mind → Follow → Mind
did m (Goes s) = record m { stage = s }
did m (Takes h sub) =
    record { kind = m.kind; heard = heard.Nothing; stage = handed m.kind h sub }
did m (Hears h sub place ps) = record {
  kind = m.kind;
  heard = heard_of m.kind sub place m.heard ps;
  stage = reading m.kind h sub (place + 1);
}
did m Acts = tells (acted_kind m.kind m.heard) (acted_heard m.kind m.heard)
did m Passes = tells (passed_kind m.kind) (passed_heard m.heard)

-- the unit after what it is told
abbrev pub moved : Mind → follows.Last → Mind
moved m follows.Start =
    record m { stage = opened m.kind (told (parts_of m.kind m.heard)) 0 }
moved m (follows.Replied r) = did m (follow_of m m.stage r)

-- a call, if there is one
abbrev pub calls : Option Call → follows.Want
calls None = follows.Wait
calls (Some c) = follows.Calls c

-- the read of a name, if there is one
abbrev pub reads : ℕ → Option (List ℕ) → follows.Want
reads h None = follows.Wait
reads h (Some name) = follows.Calls (ReadPart h name)

-- the add of a part, if there is one
abbrev pub adds : ℕ → Option Draft → follows.Want
adds h None = follows.Wait
adds h (Some d) = follows.Calls (AddPart h d.label d.name d.value)

-- what a unit wants: the call that is out, or to wait
abbrev pub wanted_at : Mind → Stage → follows.Want
wanted_at m stage.Fresh = follows.Wait
wanted_at m (stage.Opens place) = calls (slice_get (opening m.kind) place)
wanted_at m stage.Rests = follows.Wait
wanted_at m (stage.Reads h sub place) = reads h (slice_get (reads_of m.kind sub) place)
wanted_at m (stage.Drops h) = follows.Calls (DropEvent h)
wanted_at m stage.Creates = follows.Calls CreateEvent
wanted_at m (stage.Adds h place) = adds h (slice_get (parts_of m.kind m.heard) place)
wanted_at m (stage.Publishes h) = follows.Calls (Publish h)
wanted_at m stage.Stopped = follows.Wait
wanted_at m (stage.StoppedDrops h) = follows.Calls (DropEvent h)

-- what a unit wants now
abbrev pub want_of : Mind → follows.Want
want_of m = wanted_at m m.stage

-- a unit with what it wants
abbrev pub stepped : Mind → follows.Want × Mind
stepped m = (want_of m, m)

-- the step function
abbrev pub next : Mind → follows.Last → follows.Want × Mind
next m last = stepped (moved m last)

-- a unit before it starts
abbrev pub begins : Kind → Mind
begins k = record { kind = k; heard = heard.Nothing; stage = stage.Fresh }

-- the instances of the regulator's subscription; no other unit has any
abbrev pub instance : Mind → ℕ → Mind
instance m sub = begins kind.Watcher
