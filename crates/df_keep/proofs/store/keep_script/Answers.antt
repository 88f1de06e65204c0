use Rattle.std.proofs.Common.{◌≡◌, List, length, subst}
use Rattle.std.specs.Prelude.{IfOk, IfSome, OnOk}
use Rattle.df_disk.specs.Disk.{LeavesOnly}
use Rattle.df_durable.specs.StoredState.{Holds}
use Rattle.df_keep.specs.Kept.{followed}
use Rattle.df_keep.specs.Storing.{KeepsSome}
use Rattle.df_keep.proofs.Stored.{judged_stepped, judged_unbegun, run_leaves, stops_stepped, stores_all, unbegun_leaves}
use Rattle.df_keep.proofs.store.keep_script.Goals as goal
use Rattle.df_script_text.specs.declared.line.ScriptLine.{ScriptLine}

pub returns-in-Ok-clause-stores : goal.returns-in-Ok-clause-stores
returns-in-Ok-clause-stores g c =
    let core = c.in-Ok.kept.core in
    let r = c.step_lines.result in
    let mid = c.begin.new.disk in
    let new = c.step_lines.new.disk in
    let count = subst (λ (l : List ScriptLine). IfOk r (λ n. n ≡ length (followed core l).1)) c.deref.ensures.value c.step_lines.ensures.count in
    let holds = subst (λ (l : List ScriptLine). OnOk r (IfSome (g.D.Disk.bytes mid) (λ _. Holds g.D.Disk.bytes g.D.Disk.may_leave new (followed core l))))
    c.deref.ensures.value c.step_lines.ensures.holds in
    stores_all g.D.Disk.bytes g.D.Disk.may_leave c.args.disk.now mid new c.args.script core c.in-Ok.ensures.tells r c.in-Ok.ensures.begins count holds

pub returns-in-Ok-clause-any_moment : goal.returns-in-Ok-clause-any_moment
returns-in-Ok-clause-any_moment g c =
    let core = c.in-Ok.kept.core in
    let mid = c.begin.new.disk in
    let new = c.step_lines.new.disk in
    let second = subst (λ (l : List ScriptLine). IfSome (g.D.Disk.bytes mid) (λ _. LeavesOnly g.D.Disk.moment g.D.Disk.left_since mid new (KeepsSome core l)))
    c.deref.ensures.value c.step_lines.ensures.any_moment in
    run_leaves g.D.Disk.bytes g.D.Disk.may_leave g.D.Disk.moment g.D.Disk.left_since c.args.disk.now mid c.args.script new core c.in-Ok.ensures.tells
    c.in-Ok.ensures.begins c.begin.ensures.any_moment second

pub returns-in-Ok-clause-judged : goal.returns-in-Ok-clause-judged
returns-in-Ok-clause-judged g c = judged_stepped c.args.script.start (g.D.Disk.faults c.begin.new.disk) (g.D.Disk.faults c.step_lines.new.disk) c.in-Ok.kept
    c.step_lines.result c.step_lines.ensures.stops (g.D.Disk.bytes c.args.disk.now) c.in-Ok.ensures.judged

pub returns-in-Ok-clause-stops : goal.returns-in-Ok-clause-stops
returns-in-Ok-clause-stops g c = stops_stepped (g.D.Disk.faults c.args.disk.now) (g.D.Disk.faults c.begin.new.disk) (g.D.Disk.faults c.step_lines.new.disk)
    c.begin.ensures.never_falls c.step_lines.result c.step_lines.ensures.stops

pub returns-clause-any_moment : goal.returns-clause-any_moment
returns-clause-any_moment g c = unbegun_leaves g.D.Disk.bytes g.D.Disk.may_leave g.D.Disk.moment g.D.Disk.left_since c.args.disk.now c.begin.new.disk
    c.args.script (g.D.Disk.bytes c.args.disk.now) c.begin.ensures.any_moment

pub returns-clause-judged : goal.returns-clause-judged
returns-clause-judged g c = judged_unbegun c.args.script.start c.in-Err.status (g.D.Disk.bytes c.args.disk.now) c.in-Err.ensures.judged
