-- What the calls of a unit make of it.
use Rattle.std.specs.Prelude.{Bool, true, false, Option, None, Some, ℕ, ◌≡◌, ◌+◌, not, ◌&&◌, if◌then◌else◌, nat_le, length, List, [], ◌∷◌}
use Rattle.df_label.specs.declared.label.Label.{Label}
use Rattle.df_label.specs.declared.privilege.Privilege.{Privilege}
use Rattle.df_unit.specs.declared.call.Call.{Call}
use Rattle.df_unit.specs.declared.commit.Commit.{Commit}
use Rattle.df_unit.specs.declared.commit.Given.{Given}
use Rattle.df_unit.specs.declared.entry.Effect.{Effect}
use Rattle.df_unit.specs.declared.reply.Reply.{Reply}
use Rattle.df_unit.specs.declared.name.UnitName.TheVariants.{Root}
use Rattle.df_unit.specs.Beginnings.{root}
use Rattle.df_unit.specs.Handles.{closed, handle_at}
use Rattle.df_unit.specs.Limits.{most_parts}
use Rattle.df_unit.specs.OwnState.{OwnState}
use Rattle.df_unit.specs.declared.handle.Handle.{Handle}
use Rattle.df_unit.specs.declared.name.EventName.{EventName}
use Rattle.df_part.specs.declared.edit.Spot.{Spot}
use Rattle.df_part.specs.declared.part.Part.{Part}
use Rattle.df_unit.specs.Drafts.{relabelled, show}
use Rattle.df_unit.specs.Rows.{at_handle, reply, effect, after, is_accepted, is_nil, subscribed, refused_write, unwritable}
use Rattle.df_local.specs.declared.close.Close.{Close}
use Rattle.df_local.specs.declared.close.Close.TheVariants.{Publish, Release}
use Rattle.df_local.specs.code.LocalState.{LocalState}

-- the unit with another state
abbrev pub with_own : LocalState → OwnState → LocalState
with_own l st = record { unit = l.unit; own = st }

-- a root as it begins
abbrev pub root_at : ℕ → Label → List Privilege → LocalState
root_at number label privileges = record { unit = Root (number ∷ []); own = root label privileges }

-- a call's reply and effect by its row, where these deliveries are left
abbrev pub row_answer : LocalState → List Given → Call → Reply × Effect
row_answer l left call = (reply l.unit l.own left call, effect l.unit l.own left call)

-- the reply and the effect are the row's, for some deliveries that are left
abbrev pub IsAnswer : LocalState → Call → Reply → Effect → Type 0
IsAnswer l call r f = (left : List Given) × (row_answer l left call ≡ (r, f))

-- a call's reply and the unit after it are its row's, where these deliveries are left and the call
-- has this effect
pub record AnswersOf (left : List Given) (f : Effect) (call : Call) (r : Reply)
    (old new : LocalState) : Type 0 where
  pub replied : r ≡ reply old.unit old.own left call
  pub moved : new ≡ with_own old (after old.unit old.own call r f)

-- a local call's reply is its row's, and the unit is as that row leaves it
abbrev pub Answers : Call → Reply → LocalState → LocalState → Type 0
Answers call r old new = AnswersOf [] Effect.Nothing call r old new

-- a get's reply is its row's where this delivery is the first that is left, and the unit is as that
-- row leaves it
abbrev pub TakesIn : Given → Reply → LocalState → LocalState → Type 0
TakesIn g r old new = AnswersOf (g ∷ []) (Effect.Given g) Call.Get r old new

-- what a get is told of a delivery that is left, by the handle of its view, if one may be opened
abbrev pub viewed : Given → Option ℕ → Reply
viewed g (Some h) = Reply.Event h g.sub
viewed g None = Reply.TooManyHandles

-- what drafting a part at a handle is answered
abbrev pub added_reply : OwnState → ℕ → Reply
added_reply st h = at_handle (handle_at st.handles h) (λ d. if nat_le most_parts (length d.drafted)
    then Reply.TooManyParts (most_parts + 1) else Reply.Ok)

-- the state where a subscription with this reply is counted
abbrev pub counted : OwnState → Reply → OwnState
counted st r = if is_accepted r then record st { subs = st.subs + 1 } else st

-- a subscription of either kind is answered by its row and counted
pub record CountsSub (r : Reply) (old new : LocalState) : Type 0 where
  pub replied : r ≡ subscribed old.unit old.own
  pub moved : new ≡ with_own old (counted old.own r)

-- the call that closes a handle in this way
abbrev pub closing : Close → ℕ → Call
closing Publish h = Call.Publish h
closing Release h = Call.Release h

-- what a publish of an open handle is answered
abbrev pub publish_reply : Handle → Reply
publish_reply d =
    if d.is_view then Reply.NotDraft else if is_nil d.drafted then Reply.EmptyEvent else Reply.Ok

-- what a release of an open handle is answered
abbrev pub release_reply : Label → Handle → Reply
release_reply out d =
    if not d.is_view then Reply.NotReceived else refused_write out (unwritable out d.named)

abbrev pub edited : EventName → List Spot → List Part → Commit
edited event deleted added = record { event = event; edit = (deleted, added) }

-- what a publish of an open handle does
abbrev pub publish_effect : Label → Handle → Effect
publish_effect out d = if is_accepted (publish_reply d)
    then Effect.Commit (edited d.event [] (relabelled out d.drafted)) else Effect.Nothing

-- what the release of an open handle does
abbrev pub release_effect : Label → Handle → Effect
release_effect out d = if is_accepted (release_reply out d)
    then if is_nil d.named && is_nil d.drafted then Effect.Nothing
    else Effect.Commit (edited d.event d.named (relabelled out d.drafted))
    else Effect.Nothing

-- what a publish or a release of an open handle is answered
abbrev pub closing_reply : Close → Label → Handle → Reply
closing_reply Publish out d = publish_reply d
closing_reply Release out d = release_reply out d

-- the effect of a call that was made, if it was
abbrev pub made_where : Bool → Effect → Option Effect
made_where true f = Some f
made_where false f = None

-- the unit with a handle closed, where a call had an effect
abbrev pub closed_where : Option Effect → ℕ → LocalState → LocalState
closed_where None h l = l
closed_where (Some f) h l = with_own l (record l.own { handles = closed l.own.handles h })

-- what is told of an answer: its effect where the reply is Ok, and none where it is a refusal
abbrev pub TellsEffect : Reply × Effect → Option Effect → Type 0
TellsEffect answer (Some effect) = answer ≡ (Reply.Ok, effect)
TellsEffect answer None = is_accepted answer.0 ≡ false

-- whichever deliveries are left, a publish or a release is answered so, and closes the handle where
-- it is answered with Ok
pub record Closes (how : Close) (h : ℕ) (made : Option Effect) (old new : LocalState)
    : Type 0 where
  pub told : (left : List Given) → TellsEffect (row_answer old left (closing how h)) made
  pub moved : new ≡ closed_where made h old

-- whether the call is made of the unit's own state alone and has no effect
abbrev pub is_alone : Call → Bool
is_alone Call.CreateEvent = true
is_alone (Call.AddPart h label name value) = true
is_alone (Call.DelPart h label name) = true
is_alone (Call.ReadPart h name) = true
is_alone (Call.CloneEvent h label) = true
is_alone (Call.AttachPrivilege h label name p) = true
is_alone (Call.ChangeOutLabel half act tag) = true
is_alone Call.CreateTag = true
is_alone (Call.DropEvent h) = true
is_alone _ = false

-- such a call is answered by its row, whichever deliveries are left, and taken in
pub record IsMadeAlone (call : Call) (r : Reply) (old new : LocalState) : Type 0 where
  pub alone : is_alone call ≡ true
  pub answered : (left : List Given) → row_answer old left call ≡ (r, Effect.Nothing)
  pub moved : new ≡ with_own old (after old.unit old.own call r Effect.Nothing)

-- the reply of a read that shows one part alone
abbrev pub shows_one : Part → Reply
shows_one part = Reply.Parts (show part ∷ [])

-- a reply, if one is told
abbrev pub told_if : Bool → Reply → Option Reply
told_if true r = Some r
told_if false r = None

-- such a call is made, with this reply; at any other nothing is done
abbrev pub MakesAlone : Call → Option Reply → LocalState → LocalState → Type 0
MakesAlone call (Some r) old new = IsMadeAlone call r old new
MakesAlone call None old new = (is_alone call ≡ false) × (new ≡ old)
