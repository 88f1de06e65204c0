-- What is passed on between two rows of privileges.
use Rattle.std.specs.Prelude.{◌≡◌, Bool, true, false, ◌||◌, ℕ, List}
use Rattle.std.specs.List.{list_all}
use Rattle.df_label.specs.Privileges.{contains as contains_privilege}
use Rattle.df_label.specs.TagSet.{contains}
use Rattle.df_label.specs.declared.label.Label.{Label}
use Rattle.df_label.specs.declared.privilege.Privilege.{Privilege}
use Rattle.df_priv.specs.Needed.{needed, needed_to_attach}
use Rattle.df_priv.specs.declared.need.Act.TheVariants.{Add, Del}

-- whether a family with this label and row may write with the integrity tag
abbrev pub row_can_write : Label → List Privilege → List ℕ → Bool
row_can_write from giver t = contains from.i t || contains_privilege giver (needed Add t)

-- whether the tag is no bar between two families with these labels and rows
abbrev pub row_passes : Label → List Privilege → List Privilege → List ℕ → Bool
row_passes from giver taker t =
    contains_privilege taker (needed Del t) || row_can_write from giver t

-- whether no integrity tag of the second is a bar
abbrev pub row_reaches : Label → List Privilege → Label → List Privilege → Bool
row_reaches from giver to taker = list_all (row_passes from giver taker) to.i

-- the row has all that it had, and what the giver's may attach
abbrev pub IsPassedOn : List Privilege → List Privilege → List Privilege → Type 0
IsPassedOn giver old new = (p : Privilege) → contains_privilege new p
    ≡ (contains_privilege old p || contains_privilege giver (needed_to_attach p))

-- the row has a privilege that it hadn't
abbrev pub Gains : List Privilege → List Privilege → Type 0
Gains old new = (p : Privilege) × (contains_privilege old p ≡ false)
    × (contains_privilege new p ≡ true)
