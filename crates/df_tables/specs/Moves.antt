-- What the tables need of an entry before they move.
use Rattle.std.specs.Prelude.{◌≡◌, ℕ, Bool, true, false, if◌then◌else◌, List, Option, Some, None}
use Rattle.df_filter.specs.declared.clause.Clause.{Clause}
use Rattle.df_label.specs.declared.privilege.Privilege.{Privilege}
use Rattle.df_local.specs.Locally.{row_answer}
use Rattle.df_unit.specs.Rows.{is_accepted}
use Rattle.df_unit.specs.declared.call.Call.{Call}
use Rattle.df_unit.specs.declared.call.Call.TheVariants.{ChangeInOut, Instantiate, Publish, Release, Subscribe, SubscribeManaged}
use Rattle.df_unit.specs.declared.entry.Effect.{Effect}
use Rattle.df_unit.specs.declared.reply.Reply.{Reply}
use Rattle.df_unit.specs.declared.reply.Reply.TheVariants.{Sub, Unit as Made}
use Rattle.df_tables.specs.declared.units.Unit.{Unit}

-- the reply and the effect are the unit's answer to the call, by its own state and what is left of
-- its line
abbrev pub IsAnswered : Call → Reply → Effect → Unit → Type 0
IsAnswered c r f u = row_answer u.local u.line.left c ≡ (r, f)

-- the ordinary subscription, a number and a filter, that a call with this reply makes
abbrev pub made_by : Call → Reply → Option (ℕ × List Clause)
made_by (Subscribe filter) (Sub n) = Some (n, filter)
made_by _ _ = None

-- whether the call is one that changes the label at which its unit reads
abbrev pub is_in_out : Call → Bool
is_in_out (ChangeInOut half act tag) = true
is_in_out _ = false

-- the child, a number, tags and privileges, that a call with this reply makes
abbrev pub child_by : Call → Reply → Option (ℕ × (List (List ℕ) × List Privilege))
child_by (Instantiate s privileges) (Made n) = Some (n, (s, privileges))
child_by _ _ = None

-- the managed subscription, a number and a filter, that a call with this reply makes
abbrev pub managed_sub_by : Call → Reply → Option (ℕ × List Clause)
managed_sub_by (SubscribeManaged filter) (Sub n) = Some (n, filter)
managed_sub_by _ _ = None

-- the handle that a publish or a release with this reply closes
abbrev pub closed_by : Call → Reply → Option ℕ
closed_by (Publish h) r = if is_accepted r then Some h else None
closed_by (Release h) r = if is_accepted r then Some h else None
closed_by _ r = None
