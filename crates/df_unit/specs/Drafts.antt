-- Parts of a draft or a view: which are visible, and how they are labelled.
use Rattle.std.specs.Prelude.{ℕ, Bool, not, if◌then◌else◌, List, [], ◌∷◌, ◌++◌, map}
use Rattle.std.specs.List.{filter, list_any}
use Rattle.std.specs.Str.{bytes_eq}
use Rattle.df_label.specs.TagSet.{union, meet}
use Rattle.df_label.specs.declared.label.Label.{Label}
use Rattle.df_label.specs.declared.privilege.Privilege.{Privilege}
use Rattle.df_frozen.specs.Plain.{Plain}
use Rattle.df_part.specs.declared.part.Part.{Part}
use Rattle.df_part.specs.declared.edit.Spot.{Spot}
use Rattle.df_part.specs.Part.{cut}
use Rattle.df_part.specs.Contents.{is_at, spared}
use Rattle.df_unit.specs.declared.parts.PartRead.{PartRead}
use Rattle.df_label.specs.Privileges.{add}
use Rattle.df_unit.specs.declared.handle.Handle.{Handle}

abbrev pub spot : List ℕ → Label → Spot
spot name label = record { name = name; label = label }

-- the seen parts that are readable at the input label and aren't named for deletion
abbrev pub visible : Label → Handle → List Part
visible input d = spared d.named (cut input d.seen)

-- the visible parts of a name, in order
abbrev pub visible_named : Label → List ℕ → Handle → List Part
visible_named input name d = filter (λ part. bytes_eq name part.name) (visible input d)

-- whether one of the parts has exactly this name and label
abbrev pub has_at : List Part → Spot → Bool
has_at parts d = list_any (λ part. is_at part d) parts

-- what a clone copies: the visible parts, then the drafted ones
abbrev pub source : Label → Handle → List Part
source input d = visible input d ++ d.drafted

-- a label as a unit with this output label can write it: its secrets stick, and integrity that it
-- lacks is lost
abbrev pub raised : Label → Label → Label
raised out label = record { s = union label.s out.s; i = meet label.i out.i }

-- a new part without privileges
abbrev pub new_part : Label → List ℕ → Plain → Part
new_part label name value = record { name = name; label = label; value = value; privileges = [] }

abbrev pub relabel : Label → Part → Part
relabel out part = record part { label = raised out part.label }

-- the parts, each labelled again at this output label
abbrev pub relabelled : Label → List Part → List Part
relabelled out parts = map (relabel out) parts

abbrev pub clone : Label → Label → Part → Part
clone out label part = new_part (raised out (raised label part.label)) part.name part.value

-- the parts, each raised to the label and written without privileges
abbrev pub cloned : Label → Label → List Part → List Part
cloned out label parts = map (clone out label) parts

-- the draft without the parts of a name and label; where there are none, the spot is named for
-- deletion
abbrev pub deleted_in : Spot → Handle → Handle
deleted_in d h =
    if has_at h.drafted d
    then record h { drafted = filter (λ part. not (is_at part d)) h.drafted }
    else record h { named = h.named ++ d ∷ [] }

abbrev pub attach : Spot → Privilege → Part → Part
attach d p part = if is_at part d then record part { privileges = add part.privileges p } else part

-- the draft with a privilege on each part of a name and label
abbrev pub attached_in : Spot → Privilege → Handle → Handle
attached_in d p h = record h { drafted = map (attach d p) h.drafted }

abbrev pub show : Part → PartRead
show part = record { label = part.label; value = part.value; privileges = part.privileges }

-- what a read shows of each part
abbrev pub shown : List Part → List PartRead
shown parts = map show parts
