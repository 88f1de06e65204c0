-- Reading calls: the words behind the unit's.
use Rattle.std.specs.Prelude.{ℕ, List, [], ◌∷◌, codes}
use Rattle.df_format.specs.Reading.{Read, as_at, then_at, behind_at, closed_at}
use Rattle.df_frozen.specs.Plain.{Plain}
use Rattle.df_label.specs.declared.label.Label.{Label}
use Rattle.df_priv.specs.declared.need.Half.{Half}
use Rattle.df_priv.specs.declared.need.Half.TheVariants.{S, I}
use Rattle.df_priv.specs.declared.need.Act.{Act}
use Rattle.df_priv.specs.declared.need.Act.TheVariants.{Add, Del}
use Rattle.df_unit.specs.declared.call.Call.{Call}
use Rattle.df_unit.specs.declared.call.Call.TheVariants.{CreateEvent, AddPart, DelPart, ReadPart, CloneEvent, AttachPrivilege, ChangeOutLabel, CreateTag, DropEvent, Subscribe, SubscribeManaged, Get, Publish, Release, ChangeInOut, Instantiate}
use Rattle.df_value_text.specs.ReadLabel.{label_at, privilege_at}
use Rattle.df_value_text.specs.ReadName.{name_at}
use Rattle.df_value_text.specs.ReadTag.{short_at, tag_at, tags_at}
use Rattle.df_value_text.specs.ReadValue.{value_at}
use Rattle.df_filter_text.specs.ReadFilter.{filter_at}
use Rattle.df_journal_text.specs.ReadWords.{word_at, bare_at, kinds_at, named_at, privileges_at}

-- a half of a label
abbrev pub half_at : List ℕ → Read ℕ Half
half_at bytes = kinds_at ((codes "S", bare_at S) ∷ (codes "I", bare_at I) ∷ []) bytes

-- what is done with a tag
abbrev pub act_at : List ℕ → Read ℕ Act
act_at bytes = kinds_at ((codes "add", bare_at Add) ∷ (codes "del", bare_at Del) ∷ []) bytes

-- a handle and what is read behind it
abbrev pub handle_at : {X : Type 0} → (List ℕ → Read ℕ X) → List ℕ → Read ℕ (ℕ × X)
handle_at read bytes = then_at (word_at short_at) read bytes

-- a handle, a label and a name
abbrev pub spot_at : List ℕ → Read ℕ (ℕ × (Label × List ℕ))
spot_at bytes = handle_at named_at bytes

-- a half of a label, what is done there, and a tag
abbrev pub change_at : List ℕ → Read ℕ (Half × (Act × List ℕ))
change_at bytes = then_at half_at (then_at act_at (word_at tag_at)) bytes

-- tags in braces
abbrev pub braced_at : List ℕ → Read ℕ (List (List ℕ))
braced_at bytes = behind_at (123 ∷ []) (closed_at (125 ∷ []) tags_at) bytes

-- the last of the calls by their keywords
abbrev pub last_kinds : List (List ℕ × (List ℕ → Read ℕ Call))
last_kinds =
    (codes "tag", bare_at CreateTag)
    ∷ (codes "out", λ bytes. as_at (λ x. ChangeOutLabel x.0 x.1.0 x.1.1) change_at bytes)
    ∷ (codes "inout", λ bytes. as_at (λ x. ChangeInOut x.0 x.1.0 x.1.1) change_at bytes)
    ∷ (codes "sub", λ bytes. as_at (λ filter. Subscribe filter) (word_at filter_at) bytes)
    ∷ (codes "msub", λ bytes. as_at (λ filter. SubscribeManaged filter) (word_at filter_at) bytes)
    ∷ (
      codes "spawn",
      λ bytes. as_at (λ x. Instantiate x.0 x.1)
          (then_at (word_at braced_at) privileges_at) bytes,
    )
    ∷ []

-- the calls that name a label or a name without a value, and then the last
abbrev pub named_kinds : List (List ℕ × (List ℕ → Read ℕ Call))
named_kinds =
    (codes "del", λ bytes. as_at (λ x. DelPart x.0 x.1.0 x.1.1) spot_at bytes)
    ∷ (codes "read", λ bytes. as_at (λ x. ReadPart x.0 x.1) (handle_at (word_at name_at)) bytes)
    ∷ (codes "clone", λ bytes. as_at (λ x. CloneEvent x.0 x.1) (handle_at (word_at label_at)) bytes)
    ∷ (
      codes "attach",
      λ bytes. as_at (λ x. AttachPrivilege x.0.0 x.0.1.0 x.0.1.1 x.1)
          (then_at spot_at (word_at privilege_at)) bytes,
    )
    ∷ last_kinds

-- the calls without a value: first those of a handle alone or of nothing
abbrev pub plain_kinds : List (List ℕ × (List ℕ → Read ℕ Call))
plain_kinds =
    (codes "get", bare_at Get)
    ∷ (codes "create", bare_at CreateEvent)
    ∷ (codes "publish", λ bytes. as_at (λ h. Publish h) (word_at short_at) bytes)
    ∷ (codes "release", λ bytes. as_at (λ h. Release h) (word_at short_at) bytes)
    ∷ (codes "drop", λ bytes. as_at (λ h. DropEvent h) (word_at short_at) bytes)
    ∷ named_kinds

abbrev pub add_of : (ℕ × (Label × List ℕ)) × Plain → Call
add_of x = AddPart x.0.0 x.0.1.0 x.0.1.1 x.1

-- what stands behind `add`
abbrev pub added_at : List ℕ → Read ℕ Call
added_at bytes = as_at add_of (then_at spot_at (word_at value_at)) bytes

-- the calls by their keywords
abbrev pub call_kinds : List (List ℕ × (List ℕ → Read ℕ Call))
call_kinds = (codes "add", added_at) ∷ plain_kinds

-- the words of a call
abbrev pub call_at : List ℕ → Read ℕ Call
call_at bytes = kinds_at call_kinds bytes
