-- The call table. For each call: what it answers, in the order of the checks, what it does beyond
-- the unit, and what it makes of the unit's own state.
use Rattle.std.specs.Prelude.{ℕ, ◌+◌, ◌==◌, Bool, true, false, not, ◌&&◌, ◌||◌, if◌then◌else◌, nat_le, nat_lt, List, [], ◌∷◌, ◌++◌, length, map, Option, Some, None}
use Rattle.std.specs.List.{find, flat_map}
use Rattle.std.specs.Option.{option_map, option_or}
use Rattle.df_label.specs.Label.{flows_to, join}
use Rattle.df_label.specs.TagSet.{contains, with, without}
use Rattle.df_label.specs.declared.label.Label.{Label}
use Rattle.df_label.specs.declared.privilege.Privilege.{Privilege}
use Rattle.df_priv.specs.declared.need.Half.{Half}
use Rattle.df_priv.specs.declared.need.Act.{Act}
use Rattle.df_priv.specs.declared.need.Act.TheVariants.{Add, Del}
use Rattle.df_part.specs.declared.edit.Spot.{Spot}
use Rattle.df_part.specs.declared.part.Part.{Part}
use Rattle.df_filter.specs.declared.clause.Clause.{Clause}
use Rattle.df_unit.specs.declared.name.UnitName.{UnitName}
use Rattle.df_unit.specs.declared.name.UnitName.TheVariants.{Root, Managed}
use Rattle.df_unit.specs.declared.name.EventName.{EventName}
use Rattle.df_unit.specs.declared.commit.Given.{Given}
use Rattle.df_unit.specs.declared.call.Call.{Call}
use Rattle.df_unit.specs.declared.call.Call.TheVariants.{CreateEvent, AddPart, DelPart, ReadPart, CloneEvent, AttachPrivilege, ChangeOutLabel, CreateTag, DropEvent, Subscribe, SubscribeManaged, Get, Publish, Release, ChangeInOut, Instantiate}
use Rattle.df_unit.specs.declared.handle.Handle.{Handle}
use Rattle.df_unit.specs.declared.reply.Reply.{Reply}
use Rattle.df_unit.specs.declared.entry.Effect.{Effect}
use Rattle.df_unit.specs.Limits.{most_parts, most_subs, most_units, most_path, most_numbers}
use Rattle.df_priv.specs.Held.{holds, grant_all}
use Rattle.df_priv.specs.Needed.{needed, needed_to_attach}
use Rattle.df_unit.specs.Held.{all_over}
use Rattle.df_unit.specs.Handles.{draft_of, view_of, is_full, least_free, handle_at, opened, closed, changed_at}
use Rattle.df_unit.specs.Drafts.{spot, visible, visible_named, has_at, source, raised, new_part, relabelled, cloned, deleted_in, attached_in, shown}
use Rattle.df_unit.specs.OwnState.{OwnState}

abbrev pub is_instance : UnitName → Bool
is_instance (Root path) = false
is_instance (Managed owner n s) = true

-- the path of a plain unit, or of an instance's owner
abbrev pub path_of : UnitName → List ℕ
path_of (Root path) = path
path_of (Managed owner n s) = owner

-- the tag that a unit makes next
abbrev pub next_tag : UnitName → OwnState → List ℕ
next_tag unit st = path_of unit ++ st.tags ∷ []

-- the event that a unit numbers next
abbrev pub next_event : UnitName → OwnState → EventName
next_event unit st = record { unit = unit; number = st.events }

abbrev pub is_nil : {A : Type 0} → List A → Bool
is_nil [] = true
is_nil (x ∷ xs) = false

-- the answer about an open handle; without one, that there is none
abbrev pub at_handle : Option Handle → (Handle → Reply) → Reply
at_handle None f = Reply.NoSuchHandle
at_handle (Some d) f = f d

-- the reply where the privilege is held, else that it lacks
abbrev pub where_held : OwnState → Privilege → Reply → Reply
where_held st q r = if holds st.held q then r else Reply.Lacks q

-- the reply where nothing lacks
abbrev pub unless_lacking : Option Privilege → Reply → Reply
unless_lacking None r = r
unless_lacking (Some q) r = Reply.Lacks q

-- the first spot that a unit with this output label can't write
abbrev pub unwritable : Label → List Spot → Option Spot
unwritable out spots = find (λ d. not (flows_to out d.label)) spots

abbrev pub refused_write : Label → Option Spot → Reply
refused_write out None = Reply.Ok
refused_write out (Some d) = Reply.CannotWrite out d.label

-- whether the tag is in the confidentiality of one of the labels, or may be added to it
abbrev pub has_or_may_add : OwnState → List ℕ → Bool
has_or_may_add st t =
    contains st.input.s t || (contains st.output.s t || holds st.held (needed Add t))

-- the plus that adding a tag to a child's labels needs, for the first tag that its maker neither
-- has nor may add
abbrev pub lacking_tag : OwnState → List (List ℕ) → Option Privilege
lacking_tag st s = option_map (needed Add) (find (λ t. not (has_or_may_add st t)) s)

-- the authority over the first of the privileges that its maker may not pass on
abbrev pub lacking_authority : OwnState → List Privilege → Option Privilege
lacking_authority st privileges =
    find (λ q. not (holds st.held q)) (map needed_to_attach privileges)

abbrev pub subscribed : UnitName → OwnState → Reply
subscribed unit st =
    if is_instance unit then Reply.NotInManaged
    else if nat_le most_subs st.subs then Reply.TooManySubs
    else Reply.Sub st.subs

-- the answer to a get, by the deliveries that are left
abbrev pub handed : OwnState → List Given → Reply
handed st [] = Reply.Nothing
handed st (d ∷ ds) =
    if is_full st.handles then Reply.TooManyHandles else Reply.Event (least_free st.handles) d.sub

-- what a call of a unit is answered, by its own state and the deliveries that are left
abbrev pub reply : UnitName → OwnState → List Given → Call → Reply
reply unit st left CreateEvent =
    if is_full st.handles then Reply.TooManyHandles
    else if nat_le most_numbers st.events then Reply.Exhausted
    else Reply.Handle (least_free st.handles)
reply unit st left (AddPart h label name value) = at_handle (handle_at st.handles h) (λ d.
    if nat_le most_parts (length d.drafted) then Reply.TooManyParts (most_parts + 1)
    else Reply.Ok)
reply unit st left (DelPart h label name) = at_handle (handle_at st.handles h) (λ d.
    if has_at d.drafted (spot name label) then Reply.Ok
    else if not (has_at (visible st.input d) (spot name label)) then Reply.NoSuchPart
    else if not (flows_to st.output label) then Reply.CannotWrite st.output label
    else Reply.Ok)
reply unit st left (ReadPart h name) = at_handle (handle_at st.handles h) (λ d.
    if is_nil (visible_named st.input name d) then Reply.NoSuchPart
    else Reply.Parts (shown (visible_named st.input name d)))
reply unit st left (CloneEvent h label) = at_handle (handle_at st.handles h) (λ d.
    if is_full st.handles then Reply.TooManyHandles
    else if nat_lt most_parts (length (source st.input d))
    then Reply.TooManyParts (length (source st.input d))
    else if nat_le most_numbers st.events then Reply.Exhausted
    else Reply.Handle (least_free st.handles))
reply unit st left (AttachPrivilege h label name p) = at_handle (handle_at st.handles h) (λ d.
    if not (has_at d.drafted (spot name label)) then Reply.NoSuchPart
    else where_held st (needed_to_attach p) Reply.Ok)
reply unit st left (ChangeOutLabel half act tag) = where_held st (needed act tag) Reply.Ok
reply unit st left CreateTag =
    if is_instance unit then Reply.NotInManaged
    else if nat_le most_numbers st.tags then Reply.Exhausted
    else Reply.Tag (next_tag unit st)
reply unit st left (DropEvent h) = at_handle (handle_at st.handles h) (λ d. Reply.Ok)
reply unit st left (Subscribe filter) = subscribed unit st
reply unit st left (SubscribeManaged filter) = subscribed unit st
reply unit st left Get = handed st left
reply unit st left (Publish h) = at_handle (handle_at st.handles h) (λ d.
    if d.is_view then Reply.NotDraft
    else if is_nil d.drafted then Reply.EmptyEvent
    else Reply.Ok)
reply unit st left (Release h) = at_handle (handle_at st.handles h) (λ d.
    if not d.is_view then Reply.NotReceived
    else refused_write st.output (unwritable st.output d.named))
reply unit st left (ChangeInOut half act tag) =
    if is_instance unit then Reply.NotInManaged
    else where_held st (needed act tag) Reply.Ok
reply unit st left (Instantiate s privileges) =
    if is_instance unit then Reply.NotInManaged
    else if nat_le most_path (length (path_of unit)) then Reply.TooDeep
    else if nat_le most_units st.units then Reply.TooManyUnits
    else unless_lacking (option_or (lacking_tag st s) (lacking_authority st privileges))
    (Reply.Unit st.units)

-- whether the reply is no refusal
abbrev pub is_accepted : Reply → Bool
is_accepted Reply.Ok = true
is_accepted (Reply.Handle h) = true
is_accepted (Reply.Tag t) = true
is_accepted (Reply.Sub n) = true
is_accepted (Reply.Unit k) = true
is_accepted (Reply.Event h n) = true
is_accepted (Reply.Parts ps) = true
is_accepted _ = false

-- what a draft commits
abbrev pub published : OwnState → Option Handle → Effect
published st None = Effect.Nothing
published st (Some d) =
    Effect.Commit (record { event = d.event; edit = ([], relabelled st.output d.drafted) })

-- what a view commits, where it changes anything
abbrev pub released : OwnState → Option Handle → Effect
released st None = Effect.Nothing
released st (Some d) =
    if is_nil d.named && is_nil d.drafted then Effect.Nothing
    else Effect.Commit (record {
      event = d.event;
      edit = (d.named, relabelled st.output d.drafted);
    })

abbrev pub first_given : List Given → Effect
first_given [] = Effect.Nothing
first_given (d ∷ ds) = Effect.Given d

-- what a call of a unit does beyond the unit
abbrev pub effect : UnitName → OwnState → List Given → Call → Effect
effect unit st left Get =
    if is_accepted (reply unit st left Get) then first_given left else Effect.Nothing
effect unit st left (Publish h) = if is_accepted (reply unit st left (Publish h))
    then published st (handle_at st.handles h) else Effect.Nothing
effect unit st left (Release h) = if is_accepted (reply unit st left (Release h))
    then released st (handle_at st.handles h) else Effect.Nothing
effect unit st left _ = Effect.Nothing

abbrev pub tag_changed : Act → List ℕ → List (List ℕ) → List (List ℕ)
tag_changed Add tag tags = with tags tag
tag_changed Del tag tags = without tags tag

-- the label with a tag put into or taken out of one half
abbrev pub half_changed : Half → Act → List ℕ → Label → Label
half_changed Half.S act tag l = record { s = tag_changed act tag l.s; i = l.i }
half_changed Half.I act tag l = record { s = l.s; i = tag_changed act tag l.i }

-- a tag that is taken out of the output's confidentiality is dropped
abbrev pub now_dropped : Half → Act → List ℕ → OwnState → List (List ℕ)
now_dropped Half.S Del tag st = if contains st.output.s tag then with st.dropped tag else st.dropped
now_dropped _ _ tag st = st.dropped

-- a tag that is put into the output's integrity is endorsed
abbrev pub now_endorsed : Half → Act → List ℕ → OwnState → List (List ℕ)
now_endorsed Half.I Add tag st =
    if contains st.output.i tag then st.endorsed else with st.endorsed tag
now_endorsed _ _ tag st = st.endorsed

abbrev pub out_changed : Half → Act → List ℕ → OwnState → OwnState
out_changed half act tag st = record st {
  output = half_changed half act tag st.output;
  dropped = now_dropped half act tag st;
  endorsed = now_endorsed half act tag st;
}

-- the state with a new draft of the next event
abbrev pub drafting : UnitName → List Part → OwnState → OwnState
drafting unit parts st = record st {
  events = st.events + 1;
  handles = opened (draft_of (next_event unit st) parts) st.handles;
}

abbrev pub sources : Label → Option Handle → List Part
sources input None = []
sources input (Some d) = source input d

-- the privileges of the parts that a read shows
abbrev pub found : Label → List ℕ → Option Handle → List Privilege
found input name None = []
found input name (Some d) = flat_map (λ part. part.privileges) (visible_named input name d)

abbrev pub taken_in : Effect → OwnState → OwnState
taken_in (Effect.Given d) st =
    record st { given = st.given + 1; handles = opened (view_of d.event d.parts) st.handles }
taken_in _ st = st

-- the state after an accepted call
abbrev pub changed : UnitName → OwnState → Call → Effect → OwnState
changed unit st CreateEvent f = drafting unit [] st
changed unit st (AddPart h label name value) f =
    record st {
      handles = changed_at st.handles h (λ d.
          record d { drafted = d.drafted ++ new_part (raised st.output label) name value ∷ [] });
    }
changed unit st (DelPart h label name) f =
    record st { handles = changed_at st.handles h (deleted_in (spot name label)) }
changed unit st (ReadPart h name) f =
    record st { held = grant_all st.held (found st.input name (handle_at st.handles h)) }
changed unit st (CloneEvent h label) f =
    drafting unit (cloned st.output label (sources st.input (handle_at st.handles h))) st
changed unit st (AttachPrivilege h label name p) f =
    record st { handles = changed_at st.handles h (attached_in (spot name label) p) }
changed unit st (ChangeOutLabel half act tag) f = out_changed half act tag st
changed unit st CreateTag f =
    record st { tags = st.tags + 1; held = grant_all st.held (all_over (next_tag unit st)) }
changed unit st (DropEvent h) f = record st { handles = closed st.handles h }
changed unit st (Subscribe filter) f = record st { subs = st.subs + 1 }
changed unit st (SubscribeManaged filter) f = record st { subs = st.subs + 1 }
changed unit st Get f = taken_in f st
changed unit st (Publish h) f = record st { handles = closed st.handles h }
changed unit st (Release h) f = record st { handles = closed st.handles h }
changed unit st (ChangeInOut half act tag) f =
    let input = half_changed half act tag st.input in
    record (out_changed half act tag st) {
      input = input;
      contamination = join st.contamination input;
    }
changed unit st (Instantiate s privileges) f = record st { units = st.units + 1 }

-- the state after a call with its reply and effect; a refused call changes nothing
abbrev pub after : UnitName → OwnState → Call → Reply → Effect → OwnState
after unit st call r f = if is_accepted r then changed unit st call f else st

-- the ordinary subscription with this filter, where the reply is the unit's next number
abbrev pub subscribes_at : OwnState → List Clause → Reply → Option (ℕ × List Clause)
subscribes_at st filter (Reply.Sub n) = if n == st.subs then Some (n, filter) else None
subscribes_at st filter _ = None

-- a unit's ordinary subscription, a number and a filter, where this call and reply make it
abbrev pub subscribes : OwnState → Call → Reply → Option (ℕ × List Clause)
subscribes st (Subscribe filter) r = subscribes_at st filter r
subscribes st _ r = None
