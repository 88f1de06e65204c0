-- The labels at which units read, kept beside the units.
use Rattle.std.specs.Prelude.{◌≡◌, ℕ, ◌<◌, List, Option, Some, None, length, map, slice_index_or}
use Rattle.std.specs.Prelude.{slice_set}
use Rattle.df_label.specs.declared.label.Label.{Label}
use Rattle.df_tables.specs.declared.units.Unit.{Unit}

-- the labels at which the units read
abbrev pub inputs : List Unit → List Label
inputs us = map (λ u. u.local.own.input) us

-- these are the labels but for that at one place, if there is one, which may be of before
abbrev pub AreLabels : List Label → List Label → Option ℕ → Type 0
AreLabels now labels None = labels ≡ now
AreLabels now labels (Some k) = (k < length now)
    × ((l : Label) → slice_set labels k (slice_index_or now k l) ≡ now)
