-- What open handles commit.
use Rattle.std.specs.Prelude.{if◌then◌else◌, List, [], Option, None, Some}
use Rattle.df_label.specs.declared.label.Label.{Label}
use Rattle.df_part.specs.declared.edit.Spot.{Spot}
use Rattle.df_unit.specs.Drafts.{relabelled}
use Rattle.df_unit.specs.declared.commit.Commit.{Commit}
use Rattle.df_unit.specs.declared.entry.Effect.{Effect}
use Rattle.df_unit.specs.declared.handle.Handle.{Handle}

-- the deletions that a release of a view makes; a draft has none
abbrev pub deletions : Handle → List Spot
deletions d = if d.is_view then d.named else []

-- what a unit with this output label commits of what an open handle names and drafts
abbrev pub commit_of : Label → Handle → Commit
commit_of out d = record { event = d.event; edit = (deletions d, relabelled out d.drafted) }

-- that commit as an effect, in place of another, where the handle is open
abbrev pub committed : Label → Option Handle → Effect → Effect
committed out None f = f
committed out (Some d) f = Effect.Commit (commit_of out d)
