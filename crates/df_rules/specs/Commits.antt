-- The commits of a journal, what a label shows of them, and the parts that an event has after them.
-- The newest entry of a journal stands first.
use Rattle.std.specs.Prelude.{if◌then◌else◌, List, [], ◌∷◌, Option, Some, None}
use Rattle.std.specs.List.{filter}
use Rattle.df_label.specs.Label.{flows_to}
use Rattle.df_label.specs.declared.label.Label.{Label}
use Rattle.df_part.specs.Contents.{apply}
use Rattle.df_part.specs.Part.{cut}
use Rattle.df_part.specs.declared.edit.Spot.{Spot}
use Rattle.df_part.specs.declared.part.Part.{Part}
use Rattle.df_unit.specs.Name.{same_event}
use Rattle.df_unit.specs.declared.commit.Commit.{Commit}
use Rattle.df_unit.specs.declared.commit.Given.{Given}
use Rattle.df_unit.specs.declared.entry.Effect.{Effect}
use Rattle.df_unit.specs.declared.entry.Entry.{Entry}
use Rattle.df_unit.specs.declared.entry.Entry.TheVariants.{Done, Emitted}
use Rattle.df_unit.specs.declared.name.EventName.{EventName}

abbrev pub commit_in : Effect → Option Commit
commit_in Effect.Nothing = None
commit_in (Effect.Commit c) = Some c
commit_in (Effect.Given d) = None

abbrev pub given_in : Effect → List Given
given_in Effect.Nothing = []
given_in (Effect.Commit c) = []
given_in (Effect.Given d) = d ∷ []

-- the commit of an entry
abbrev pub commit_of : Entry → Option Commit
commit_of (Done a c r f) = commit_in f
commit_of (Emitted c) = Some c

-- what a commit makes of the parts of an event
abbrev pub committed : EventName → Option Commit → List Part → List Part
committed event None parts = parts
committed event (Some c) parts = if same_event c.event event then apply c.edit parts else parts

-- the parts of an event after the entries
abbrev pub contents : List Entry → EventName → List Part
contents [] event = []
contents (e ∷ past) event = committed event (commit_of e) (contents past event)

-- the deletions whose label flows to a label
abbrev pub cut_spots : Label → List Spot → List Spot
cut_spots l spots = filter (λ d. flows_to d.label l) spots

-- what a label shows of a commit
abbrev pub cut_commit : Label → Commit → Commit
cut_commit l c = record { event = c.event; edit = (cut_spots l c.edit.0, cut l c.edit.1) }
