-- The answers of the rows belong together.
use Rattle.std.proofs.Common.{◌<◌, ◌+◌, ℕ, List, [], ◌∷◌, Bool, true, false, ◌&&◌, length, refl, cond, IfSome, Option, Some, None, arith, subst}
use Rattle.std.specs.Option.{option_map}
use Rattle.std.specs.Prelude.{⊤}
use Rattle.df_journal_file.specs.Journal.{ChangesSome, EditsSome, HasNote, IsWholeEntry, IsWholeNoted, ShowsSome}
use Rattle.df_journal_text.specs.Fits.{IsCall, IsEffectOf, IsNoteOf, IsReply, IsUnit}
use Rattle.df_label.specs.declared.label.Label.{Label}
use Rattle.df_label.specs.declared.privilege.Privilege.{Privilege}
use Rattle.df_part.specs.declared.edit.Spot.{Spot}
use Rattle.df_part.specs.declared.part.Part.{Part}
use Rattle.df_rules.specs.Deliveries.{deliveries}
use Rattle.df_rules.specs.Legal.{answer, answer_of, answered, left}
use Rattle.df_rules.specs.Own.{own}
use Rattle.df_rules.specs.Start.{rows}
use Rattle.df_spelled.specs.Spelled.{IsJoined, IsOutput, IsWorded, TellsGiven}
use Rattle.df_spelled.proofs.Deliveries.{AreShown, deliveries_shown, shown_drop}
use Rattle.df_unit.specs.Drafts.{relabelled, shown, visible_named}
use Rattle.df_unit.specs.Handles.{handle_at, is_full, least_free}
use Rattle.df_unit.specs.OwnState.{OwnState}
use Rattle.df_unit.specs.Rows.{at_handle, effect, first_given, handed, is_accepted, is_nil, published, refused_write, released, reply, unless_lacking}
use Rattle.df_unit.specs.declared.call.Call.{Call}
use Rattle.df_unit.specs.declared.call.Call.TheVariants.{ReadPart, Get, Publish, Release}
use Rattle.df_unit.specs.declared.commit.Given.{Given}
use Rattle.df_unit.specs.declared.entry.Effect.{Effect}
use Rattle.df_unit.specs.declared.entry.Entry.{Entry}
use Rattle.df_unit.specs.declared.entry.Entry.TheVariants.{Done, Emitted}
use Rattle.df_unit.specs.declared.handle.Handle.{Handle}
use Rattle.df_unit.specs.declared.name.UnitName.{UnitName}
use Rattle.df_unit.specs.declared.reply.Reply.{Reply}
use Rattle.df_value_text.specs.Fits.{IsLabel}

-- an entry whose words are literals and that belongs together is whole

effect_of : (f : Effect) (r : Reply) → IsOutput f → TellsGiven f r → IsEffectOf f r
effect_of Effect.Nothing r words told = tt
effect_of (Effect.Commit c) r words told = words
effect_of (Effect.Given d) (Reply.Event h sub) words told = (told, words.0, words.1)
effect_of (Effect.Given d) _ words told = absurd told

pub whole_of : (entry : Entry) → IsWorded entry → IsJoined entry → IsWholeEntry entry
whole_of (Done actor call r f) words joined = ((words.0, words.1, words.2, effect_of f r words.3 joined.0), (joined.1, joined.2))
whole_of (Emitted commit) words joined = (words, joined)

-- which replies show a part, or need show none, and are those of a unit that exists

abbrev Exists : Reply → Type 0
Exists Reply.NoSuchUnit = ⊥
Exists _ = ⊤

record Shows (r : Reply) : Type 0 where
  it : ShowsSome r
  exists : Exists r

-- what needs no part is shown as it is
said : {r : Reply} → ShowsSome r → Exists r → Shows r
said it exists = record { it = it; exists = exists }

shows_if : (b : Bool) (p q : Reply) → Shows p → Shows q → Shows (cond b p q)
shows_if true p q h k = h
shows_if false p q h k = k

shows_at : (o : Option Handle) (f : Handle → Reply) → ((d : Handle) → Shows (f d)) → Shows (at_handle o f)
shows_at None f h = said tt tt
shows_at (Some d) f h = h d

shows_unless : (o : Option Privilege) (n : ℕ) → Shows (unless_lacking o (Reply.Unit n))
shows_unless None n = said tt tt
shows_unless (Some q) n = said tt tt

shows_write : (out : Label) (o : Option Spot) → Shows (refused_write out o)
shows_write out None = said tt tt
shows_write out (Some d) = said tt tt

-- a read shows what it finds
shows_read : (parts : List Part) → Shows (cond (is_nil parts) Reply.NoSuchPart (Reply.Parts (shown parts)))
shows_read [] = said tt tt
shows_read (p ∷ ps) = said (omega arith) tt

shows_handed : (st : OwnState) (ds : List Given) → Shows (handed st ds)
shows_handed st [] = said tt tt
shows_handed st (d ∷ ds) = shows_if (is_full st.handles) Reply.TooManyHandles (Reply.Event (least_free st.handles) d.sub) (said tt tt) (said tt tt)

shows : (u : UnitName) (st : OwnState) (ds : List Given) (call : Call) → Shows (reply u st ds call)
shows u st ds (ReadPart h name) = shows_at (handle_at st.handles h) _ (λ d. shows_read (visible_named st.input name d))
shows u st ds _ = search (shows_at, shows_if, shows_unless, shows_write, shows_handed, said) depth 9

-- which effects belong to their reply and change something

abbrev Belongs : Effect → Reply → Type 0
Belongs f r = TellsGiven f r × ChangesSome f

-- the answer to a get, by whether the handles are full
abbrev told : OwnState → Given → Bool → Reply
told st d b = cond b Reply.TooManyHandles (Reply.Event (least_free st.handles) d.sub)

belongs_told : (st : OwnState) (d : Given) → 0 < length d.parts → (b : Bool)
    → Belongs (cond (is_accepted (told st d b)) (Effect.Given d) Effect.Nothing) (told st d b)
belongs_told st d some true = (tt, tt)
belongs_told st d some false = (refl, some)

belongs_get : (st : OwnState) (ds : List Given) → AreShown ds → Belongs (cond (is_accepted (handed st ds)) (first_given ds) Effect.Nothing) (handed st ds)
belongs_get st [] h = (tt, tt)
belongs_get st (d ∷ ds) h = belongs_told st d h.0 (is_full st.handles)

-- whether an effect is a commit with an edit, or nothing
abbrev Edits : Effect → Type 0
Edits Effect.Nothing = ⊤
Edits (Effect.Commit c) = EditsSome c.edit
Edits (Effect.Given d) = ⊥

belongs_edit : (f : Effect) (r : Reply) → Edits f → Belongs f r
belongs_edit Effect.Nothing r h = (tt, tt)
belongs_edit (Effect.Commit c) r h = (tt, h)
belongs_edit (Effect.Given d) r h = absurd h

some_relabelled : (out : Label) (p : Part) (ps : List Part) → 0 < 0 + length (relabelled out (p ∷ ps))
some_relabelled out p ps = omega arith

edits_publish : (st : OwnState) (o : Option Handle)
    → Edits (cond (is_accepted (at_handle o (λ d. cond d.is_view Reply.NotDraft (cond (is_nil d.drafted) Reply.EmptyEvent Reply.Ok)))) (published st o)
    Effect.Nothing)
edits_publish st None = tt
edits_publish st (Some d) = go d.is_view d.drafted
  where
    go : (b : Bool) (drafted : List Part) → Edits (cond (is_accepted (cond b Reply.NotDraft (cond (is_nil drafted) Reply.EmptyEvent Reply.Ok)))
        (Effect.Commit (record { event = d.event; edit = ([], relabelled st.output drafted) })) Effect.Nothing)
    go true drafted = tt
    go false [] = tt
    go false (p ∷ ps) = some_relabelled st.output p ps

edits_released : (st : OwnState) (o : Option Handle) → Edits (released st o)
edits_released st None = tt
edits_released st (Some d) = go d.named d.drafted
  where
    go : (named : List Spot) (drafted : List Part) → Edits (cond (is_nil named && is_nil drafted) Effect.Nothing
        (Effect.Commit (record { event = d.event; edit = (named, relabelled st.output drafted) })))
    go [] [] = tt
    go [] (p ∷ ps) = some_relabelled st.output p ps
    go (spot ∷ spots) drafted = omega arith

edits_if : (b : Bool) (f : Effect) → Edits f → Edits (cond b f Effect.Nothing)
edits_if true f h = h
edits_if false f h = tt

belongs : (u : UnitName) (st : OwnState) (ds : List Given) (call : Call) → AreShown ds → Belongs (effect u st ds call) (reply u st ds call)
belongs u st ds Get h = belongs_get st ds h
belongs u st ds (Publish n) h = belongs_edit (effect u st ds (Publish n)) (reply u st ds (Publish n)) (edits_publish st (handle_at st.handles n))
belongs u st ds (Release n) h = belongs_edit (effect u st ds (Release n)) (reply u st ds (Release n))
    (edits_if (is_accepted (reply u st ds (Release n))) (released st (handle_at st.handles n)) (edits_released st (handle_at st.handles n)))
belongs u st ds _ h = (tt, tt)

-- an entry with the answer of the rows

joined_of : (u : UnitName) (o : Option OwnState) (ds : List Given) (call : Call) → AreShown ds
    → IsJoined (Done u call (answer_of rows u o ds call).0 (answer_of rows u o ds call).1)
joined_of u None ds call h = (tt, tt, tt)
joined_of u (Some st) ds call h =
    let both = belongs u st (left st ds) call (shown_drop st.given ds h) in
    (both.0, (shows u st (left st ds) call).it, both.1)

-- what is noted of it

-- the contamination of a unit, where it exists
abbrev pub contamination_by : Option OwnState → Option Label
contamination_by o = option_map (λ st. st.contamination) o

noted_of : (u : UnitName) (o : Option OwnState) (ds : List Given) (call : Call) → HasNote (answer_of rows u o ds call).0 (contamination_by o)
noted_of u None ds call = refl
noted_of u (Some st) ds call = λ none. let absent : Exists Reply.NoSuchUnit = subst Exists none (shows u st (left st ds) call).exists in absurd absent

note_fits : (u : UnitName) (call : Call) (r : Reply) (f : Effect) (note : Option Label) → IfSome note IsLabel → IsNoteOf (Done u call r f) note
note_fits u call r f None fits = tt
note_fits u call r f (Some label) fits = fits

pub answered_joined : (s : List OwnState) (past : List Entry) (u : UnitName) (call : Call) → IsJoined (answered rows s past u call)
answered_joined s past u call = joined_of u (own rows s past u) (deliveries rows s past u) call (deliveries_shown rows s past u)

-- the entry of a call whose words are literals, with the contamination of its unit, has a spelling
pub answered_whole : (s : List OwnState) (past : List Entry) (u : UnitName) (call : Call) → IsUnit u × IsCall call → IsReply (answer rows s past u call).0
    → IsOutput (answer rows s past u call).1 → IfSome (contamination_by (own rows s past u)) IsLabel
    → IsWholeNoted (record { entry = answered rows s past u call; contamination = contamination_by (own rows s past u) })
answered_whole s past u call fits reply output label =
    let told = answer rows s past u call in
    let note = contamination_by (own rows s past u) in
    let whole = whole_of (Done u call told.0 told.1) (fits.0, fits.1, reply, output) (answered_joined s past u call) in
    ((whole.0, note_fits u call told.0 told.1 note label), whole.1, noted_of u (own rows s past u) (deliveries rows s past u) call)
