-- Reading entries and whole journals. The first bytes of a line tell its kind.
use Rattle.std.specs.Prelude.{◌≡◌, ℕ, Bool, false, ◌||◌, List, [], ◌∷◌, Option, Some, None, Ok, codes, if◌then◌else◌}
use Rattle.df_format.specs.Reading.{Read, ◌>>=◌, as_at, then_at, behind_at, all_at}
use Rattle.df_label.specs.declared.label.Label.{Label}
use Rattle.df_label.specs.declared.privilege.Privilege.{Privilege}
use Rattle.df_frozen.specs.Plain.{Plain}
use Rattle.df_part.specs.declared.part.Part.{Part}
use Rattle.df_part.specs.declared.edit.Spot.{Spot}
use Rattle.df_start.specs.declared.start.RootStart.{RootStart}
use Rattle.df_unit.specs.declared.name.UnitName.{UnitName}
use Rattle.df_unit.specs.declared.name.EventName.{EventName}
use Rattle.df_unit.specs.declared.commit.Commit.{Commit}
use Rattle.df_unit.specs.declared.parts.PartRead.{PartRead}
use Rattle.df_unit.specs.declared.call.Call.{Call}
use Rattle.df_unit.specs.declared.reply.Reply.{Reply}
use Rattle.df_unit.specs.declared.reply.Reply.TheVariants as reply
use Rattle.df_unit.specs.declared.entry.Effect.{Effect}
use Rattle.df_unit.specs.declared.entry.Effect.TheVariants as effect
use Rattle.df_unit.specs.declared.entry.Entry.TheVariants.{Done, Emitted}
use Rattle.df_unit.specs.declared.entry.Noted.{Noted}
use Rattle.df_value_text.specs.Number.{begins_with}
use Rattle.df_value_text.specs.ReadLabel.{label_at}
use Rattle.df_value_text.specs.ReadTag.{begins_digit}
use Rattle.df_value_text.specs.ReadValue.{value_at}
use Rattle.df_journal_text.specs.ReadWords.{word_at, line_at, begins_pair, named_at, privileges_at}
use Rattle.df_journal_text.specs.ReadName.{unit_at, event_at}
use Rattle.df_journal_text.specs.ReadStart.{start_at}
use Rattle.df_journal_text.specs.ReadCall.{call_at}
use Rattle.df_journal_text.specs.ReadReply.{reply_at}

-- a line behind this mark
abbrev pub marked_at : {X : Type 0} → ℕ → (List ℕ → Read ℕ X) → List ℕ → Read ℕ X
marked_at mark read bytes = behind_at (mark ∷ []) (line_at read) bytes

-- as many lines as this mark and a space stand in front
abbrev pub all_marked_at : {X : Type 0} → ℕ → (List ℕ → Read ℕ X) → List ℕ → Read ℕ (List X)
all_marked_at mark read bytes = all_at (begins_pair mark 32) (marked_at mark read) bytes

-- ---- parts, spots and edits

abbrev pub part_of : (Label × List ℕ) × (Plain × List Privilege) → Part
part_of x = record { name = x.0.1; label = x.0.0; value = x.1.0; privileges = x.1.1 }

-- the words of a part
abbrev pub part_at : List ℕ → Read ℕ Part
part_at bytes =
    as_at part_of (then_at named_at (then_at (word_at value_at) privileges_at)) bytes

abbrev pub part_read_of : Label × (Plain × List Privilege) → PartRead
part_read_of x = record { label = x.0; value = x.1.0; privileges = x.1.1 }

-- the words of what a read shows of a part
abbrev pub part_read_at : List ℕ → Read ℕ PartRead
part_read_at bytes =
    as_at part_read_of (then_at (word_at label_at) (then_at (word_at value_at) privileges_at)) bytes

abbrev pub spot_of : Label × List ℕ → Spot
spot_of x = record { name = x.1; label = x.0 }

-- the words of a deleted spot
abbrev pub deleted_at : List ℕ → Read ℕ Spot
deleted_at bytes = as_at spot_of named_at bytes

-- the lines of what a commit deletes and then of what it adds
abbrev pub edit_at : List ℕ → Read ℕ (List Spot × List Part)
edit_at bytes = then_at (all_marked_at 45 deleted_at) (all_marked_at 43 part_at) bytes

abbrev pub commit_of : EventName × (List Spot × List Part) → Commit
commit_of x = record { event = x.0; edit = x.1 }

-- the lines of a commit behind its first word
abbrev pub commit_at : List ℕ → Read ℕ Commit
commit_at bytes = as_at commit_of (then_at (line_at (word_at event_at)) edit_at) bytes

-- ---- what stands below a call's line

-- the contamination, where one is noted
abbrev pub note_at : List ℕ → Read ℕ (Option Label)
note_at bytes =
    if begins_pair 64 32 bytes then as_at (λ label. Some label) (marked_at 64 (word_at label_at))
    bytes else Ok (None, bytes)

-- the reply with what a read shows, which stands below `parts` alone
abbrev pub shown_at : Reply → List ℕ → Read ℕ Reply
shown_at (reply.Parts parts) bytes =
    as_at (λ shown. reply.Parts shown) (all_marked_at 58 part_read_at) bytes
shown_at r bytes = Ok (r, bytes)

-- the subscription of the reply `event`
abbrev pub sub_of : Reply → ℕ
sub_of (reply.Event h sub) = sub
sub_of _ = 0

abbrev pub given_of : ℕ → EventName × List Part → Effect
given_of sub x = effect.Given (record { event = x.0; sub = sub; parts = x.1 })

-- the lines of an effect: `=`, `<` or none tells which
abbrev pub effect_at : Reply → List ℕ → Read ℕ Effect
effect_at r bytes =
    if begins_pair 61 32 bytes then as_at (λ commit. effect.Commit commit)
    (behind_at (61 ∷ []) commit_at) bytes
    else if begins_pair 60 32 bytes then as_at (given_of (sub_of r))
    (then_at (marked_at 60 (word_at event_at)) (all_marked_at 46 part_at)) bytes
    else Ok (effect.Nothing, bytes)

-- ---- entries

-- a unit, its call, and the reply behind the arrow
abbrev pub call_line_at : List ℕ → Read ℕ (UnitName × (Call × Reply))
call_line_at bytes =
    then_at unit_at (then_at call_at (line_at (behind_at (codes " ->") reply_at))) bytes

abbrev pub done_of : UnitName → Call → Option Label → Reply → Effect → Noted
done_of actor call note r effect = record { entry = Done actor call r effect; contamination = note }

-- an entry of a unit
abbrev pub done_at : List ℕ → Read ℕ Noted
done_at bytes =
    call_line_at bytes >>= λ c.
    note_at c.1 >>= λ n.
    shown_at c.0.1.1 n.1 >>= λ r.
    effect_at r.0 r.1 >>= λ e.
    Ok (done_of c.0.0 c.0.1.0 n.0 r.0 e.0, e.1)

abbrev pub emitted_of : Commit → Noted
emitted_of commit = record { entry = Emitted commit; contamination = None }

-- an entry: what the world emitted, or one of a unit
abbrev pub noted_at : List ℕ → Read ℕ Noted
noted_at bytes =
    if begins_with 101 bytes then as_at emitted_of (behind_at (codes "emitted") commit_at) bytes
    else done_at bytes

-- whether an entry stands in front
abbrev pub begins_entry : List ℕ → Bool
begins_entry bytes = begins_digit bytes || begins_with 101 bytes

-- a journal in its second version: its start and its entries
abbrev pub journal_at : List ℕ → Read ℕ (List RootStart × List Noted)
journal_at bytes =
    behind_at (codes "defcon-journal 2\n") (then_at start_at
    (behind_at (codes "run\n") (all_at begins_entry noted_at))) bytes

-- none of the marks of a journal and a space stand in front
pub record IsUnmarked (rest : List ℕ) : Type 0 where
  pub note : begins_pair 64 32 rest ≡ false
  pub shown : begins_pair 58 32 rest ≡ false
  pub commit : begins_pair 61 32 rest ≡ false
  pub given : begins_pair 60 32 rest ≡ false
  pub deleted : begins_pair 45 32 rest ≡ false
  pub added : begins_pair 43 32 rest ≡ false
  pub part : begins_pair 46 32 rest ≡ false

-- what may stand behind a journal's entries: neither another entry nor a line of the last one
pub record EndsJournal (rest : List ℕ) : Type 0 where
  pub unmarked : IsUnmarked rest
  pub last : begins_entry rest ≡ false
