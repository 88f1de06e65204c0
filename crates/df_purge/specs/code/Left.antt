-- What stays of a noted entry, by its note.
use Rattle.std.specs.Prelude.{Bool, false, if◌then◌else◌, List, [], ◌∷◌, Option, Some, None}
use Rattle.df_label.specs.Label.{flows_to}
use Rattle.df_label.specs.declared.label.Label.{Label}
use Rattle.df_rules.specs.Commits.{commit_of}
use Rattle.df_rules.specs.Purge.{echo}
use Rattle.df_unit.specs.declared.commit.Commit.{Commit}
use Rattle.df_unit.specs.declared.entry.Entry.TheVariants.{Emitted}
use Rattle.df_unit.specs.declared.entry.Noted.{Noted}

-- whether a contamination is noted that flows to the label
abbrev pub is_noted_within : Label → Option Label → Bool
is_noted_within l None = false
is_noted_within l (Some contamination) = flows_to contamination l

-- a commit as an emitted entry, of which nothing is noted
abbrev pub emitted_noted : Option Commit → List Noted
emitted_noted None = []
emitted_noted (Some c) = (record { entry = Emitted c; contamination = None }) ∷ []

-- what stays of the entry: the whole, or what the label shows of its commit
abbrev pub left_noted : Label → Noted → List Noted
left_noted l n =
    if is_noted_within l n.contamination then n ∷ [] else emitted_noted (echo l (commit_of n.entry))
