-- Which calls, replies, entries and journals have a spelling.
use Rattle.std.specs.Prelude.{◌≡◌, ◌<◌, ◌^◌, true, ⊤, List, [], length, Option, Some, None}
use Rattle.std.specs.List.{All}
use Rattle.df_frozen.specs.Name.{is_name}
use Rattle.df_label.specs.Ascending.{IsAscending}
use Rattle.df_label.specs.Privilege.{privilege_cmp}
use Rattle.df_label.specs.declared.label.Label.{Label}
use Rattle.df_label.specs.declared.privilege.Privilege.{Privilege}
use Rattle.df_start.specs.declared.start.RootStart.{RootStart}
use Rattle.df_value_text.specs.Fits.{IsLabel, IsPrivilege, IsTag, IsTagSet, IsValue}
use Rattle.df_filter_text.specs.Fits.{IsFilter}
use Rattle.df_part.specs.declared.part.Part.{Part}
use Rattle.df_part.specs.declared.edit.Spot.{Spot}
use Rattle.df_unit.specs.declared.name.UnitName.{UnitName}
use Rattle.df_unit.specs.declared.name.UnitName.TheVariants.{Root, Managed}
use Rattle.df_unit.specs.declared.name.EventName.{EventName}
use Rattle.df_unit.specs.declared.commit.Commit.{Commit}
use Rattle.df_unit.specs.declared.commit.Given.{Given}
use Rattle.df_unit.specs.declared.parts.PartRead.{PartRead}
use Rattle.df_unit.specs.declared.call.Call.{Call}
use Rattle.df_unit.specs.declared.call.Call.TheVariants.{CreateEvent, AddPart, DelPart, ReadPart, CloneEvent, AttachPrivilege, ChangeOutLabel, CreateTag, DropEvent, Subscribe, SubscribeManaged, Get, Publish, Release, ChangeInOut, Instantiate}
use Rattle.df_unit.specs.declared.reply.Reply.{Reply}
use Rattle.df_unit.specs.declared.reply.Reply.TheVariants as reply
use Rattle.df_unit.specs.declared.entry.Effect.{Effect}
use Rattle.df_unit.specs.declared.entry.Effect.TheVariants as effect
use Rattle.df_unit.specs.declared.entry.Entry.{Entry}
use Rattle.df_unit.specs.declared.entry.Entry.TheVariants.{Done, Emitted}
use Rattle.df_unit.specs.declared.entry.Noted.{Noted}

-- ---- names

-- a unit: a path is at least one number of 32 bits, as a tag is
abbrev pub IsUnit : UnitName → Type 0
IsUnit (Root path) = IsTag path
IsUnit (Managed owner sub s) = IsTag owner × (sub < 2 ^ 32) × IsTagSet s

-- an event: a unit and a number
abbrev pub IsEvent : EventName → Type 0
IsEvent event = IsUnit event.unit × (event.number < 2 ^ 32)

-- privileges in ascending order
abbrev pub ArePrivileges : List Privilege → Type 0
ArePrivileges ps = All IsPrivilege ps × IsAscending privilege_cmp ps

-- ---- starts

-- a root: its label and its privileges
abbrev pub IsRoot : RootStart → Type 0
IsRoot root = IsLabel root.label × ArePrivileges root.privileges

-- fewer than 2 ^ 32 roots
abbrev pub AreRoots : List RootStart → Type 0
AreRoots roots = (length roots < 2 ^ 32) × All IsRoot roots

-- ---- calls and replies

-- a call: its handle has 32 bits, and each of its words is a literal
abbrev pub IsCall : Call → Type 0
IsCall CreateEvent = ⊤
IsCall (AddPart h label name value) = (h < 2 ^ 32) × IsLabel label × (is_name name ≡ true)
    × IsValue value
IsCall (DelPart h label name) = (h < 2 ^ 32) × IsLabel label × (is_name name ≡ true)
IsCall (ReadPart h name) = (h < 2 ^ 32) × (is_name name ≡ true)
IsCall (CloneEvent h label) = (h < 2 ^ 32) × IsLabel label
IsCall (AttachPrivilege h label name p) = (h < 2 ^ 32) × IsLabel label × (is_name name ≡ true)
    × IsPrivilege p
IsCall (ChangeOutLabel half act tag) = IsTag tag
IsCall CreateTag = ⊤
IsCall (DropEvent h) = h < 2 ^ 32
IsCall (Subscribe filter) = IsFilter filter
IsCall (SubscribeManaged filter) = IsFilter filter
IsCall Get = ⊤
IsCall (Publish h) = h < 2 ^ 32
IsCall (Release h) = h < 2 ^ 32
IsCall (ChangeInOut half act tag) = IsTag tag
IsCall (Instantiate s privileges) = IsTagSet s × ArePrivileges privileges

-- what a read shows of a part
abbrev pub IsPartRead : PartRead → Type 0
IsPartRead part = IsLabel part.label × IsValue part.value × ArePrivileges part.privileges

-- a reply: its numbers have 32 bits, that of the parts that are wanted 64, and its words are
-- literals
abbrev pub IsReply : Reply → Type 0
IsReply (reply.Handle h) = h < 2 ^ 32
IsReply (reply.Tag tag) = IsTag tag
IsReply (reply.Sub n) = n < 2 ^ 32
IsReply (reply.Unit n) = n < 2 ^ 32
IsReply (reply.Event h sub) = (h < 2 ^ 32) × (sub < 2 ^ 32)
IsReply (reply.Parts parts) = All IsPartRead parts
IsReply (reply.TooManyParts wanted) = wanted < 2 ^ 64
IsReply (reply.Lacks p) = IsPrivilege p
IsReply (reply.CannotWrite out part) = IsLabel out × IsLabel part
IsReply _ = ⊤

-- without what a read shows, which stands in lines of its own
abbrev pub IsBare : Reply → Type 0
IsBare (reply.Parts parts) = parts ≡ []
IsBare _ = ⊤

-- a reply as its words tell it
abbrev pub IsAnswer : Reply → Type 0
IsAnswer r = IsReply r × IsBare r

-- a unit, its call and the answer
abbrev pub IsCalled : UnitName × Call × Reply → Type 0
IsCalled x = IsUnit x.0 × IsCall x.1 × IsAnswer x.2

-- ---- entries

-- a part: its name, its label, its value and its privileges
abbrev pub IsPart : Part → Type 0
IsPart part = (is_name part.name ≡ true) × IsLabel part.label × IsValue part.value
    × ArePrivileges part.privileges

abbrev pub IsSpot : Spot → Type 0
IsSpot spot = (is_name spot.name ≡ true) × IsLabel spot.label

-- what a commit deletes and what it adds
abbrev pub IsEdit : List Spot × List Part → Type 0
IsEdit edit = All IsSpot edit.0 × All IsPart edit.1

abbrev pub IsCommit : Commit → Type 0
IsCommit commit = IsEvent commit.event × IsEdit commit.edit

-- what was given: its subscription is that of the reply, which is `event`
abbrev pub IsGivenOf : Given → Reply → Type 0
IsGivenOf given (reply.Event h sub) = (given.sub ≡ sub) × IsEvent given.event
    × All IsPart given.parts
IsGivenOf given _ = ⊥

-- an effect of a call with this reply
abbrev pub IsEffectOf : Effect → Reply → Type 0
IsEffectOf effect.Nothing r = ⊤
IsEffectOf (effect.Commit commit) r = IsCommit commit
IsEffectOf (effect.Given given) r = IsGivenOf given r

-- an entry of a unit, or what the world emitted
abbrev pub IsEntry : Entry → Type 0
IsEntry (Done actor call r effect) = IsUnit actor × IsCall call × IsReply r × IsEffectOf effect r
IsEntry (Emitted commit) = IsCommit commit

-- what may be noted of an entry: a contamination of its actor, and none of what was emitted
abbrev pub IsNoteOf : Entry → Option Label → Type 0
IsNoteOf (Done actor call r effect) (Some label) = IsLabel label
IsNoteOf (Emitted commit) (Some label) = ⊥
IsNoteOf entry None = ⊤

abbrev pub IsNoted : Noted → Type 0
IsNoted noted = IsEntry noted.entry × IsNoteOf noted.entry noted.contamination

-- a journal that has a spelling: its start and its noted entries
abbrev pub IsJournal : List RootStart → List Noted → Type 0
IsJournal roots noted = AreRoots roots × All IsNoted noted
