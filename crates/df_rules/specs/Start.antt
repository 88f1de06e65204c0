-- The rules of the sixteen calls, and the start of a journal.
use Rattle.std.specs.Prelude.{List, map}
use Rattle.df_label.specs.declared.label.Label.{Label}
use Rattle.df_label.specs.declared.privilege.Privilege.{Privilege}
use Rattle.df_rules.specs.Rules.{Rules}
use Rattle.df_unit.specs.Beginnings.{root, fixes, begin, makes}
use Rattle.df_priv.specs.Held.{holds}
use Rattle.df_priv.specs.Needed.{needed}
use Rattle.df_unit.specs.OwnState.{OwnState}
use Rattle.df_unit.specs.Rows.{reply, effect, after, subscribes}

abbrev pub rows : Rules
rows = record {
  answer = λ u st left call. (reply u st left call, effect u st left call);
  after = after;
  subscribes = subscribes;
  fixes = fixes;
  begin = begin;
  makes = makes;
  holds = λ st act tag. holds st.held (needed act tag);
}

abbrev pub root_of : Label × List Privilege → OwnState
root_of r = root r.0 r.1

-- the roots as they begin, each with its label and privileges; a root's number is its place
abbrev pub roots : List (Label × List Privilege) → List OwnState
roots start = map root_of start
