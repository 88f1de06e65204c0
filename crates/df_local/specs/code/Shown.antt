-- What a read brings to its unit.
use Rattle.std.specs.Prelude.{List, []}
use Rattle.std.specs.List.{flat_map}
use Rattle.df_label.specs.declared.privilege.Privilege.{Privilege}
use Rattle.df_priv.specs.Held.{grant_all}
use Rattle.df_unit.specs.declared.parts.PartRead.{PartRead}
use Rattle.df_unit.specs.declared.reply.Reply.{Reply}
use Rattle.df_unit.specs.OwnState.{OwnState}

-- the privileges of what is shown, in order
abbrev pub privileges_of : List PartRead → List Privilege
privileges_of shown = flat_map (λ part. part.privileges) shown

-- the privileges that a reply brings
abbrev pub brought : Reply → List Privilege
brought (Reply.Parts shown) = privileges_of shown
brought _ = []

-- the state where these are held too
abbrev pub holding : List Privilege → OwnState → OwnState
holding privileges st = record st { held = grant_all st.held privileges }
