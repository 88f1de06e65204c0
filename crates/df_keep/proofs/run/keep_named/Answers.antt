use Rattle.df_keep.proofs.Verdicts.{run_left, stopped_damage, stopped_does, stopped_start, stored_damage, stored_start}
use Rattle.df_keep.proofs.run.keep_named.Goals as goal

pub returns-in-Ok-keep_script-clause-damaged : goal.returns-in-Ok-keep_script-clause-damaged
returns-in-Ok-keep_script-clause-damaged g c = stored_damage
    (g.F.Shelf.bytes c.args.shelf.now c.args.name.now) (g.D.Disk.bytes c.args.disk.now) c.in-Ok.script c.in-Ok.ensures.read
    c.in-Ok.ensures.only (g.W.Sink.written c.args.out.now) (g.W.Sink.written c.write_kept.new.out) c.in-Ok-keep_script.count
    c.in-Ok-keep_script.ensures.judged c.write_kept.result c.write_kept.ensures.written

pub returns-in-Ok-keep_script-clause-start_differs : goal.returns-in-Ok-keep_script-clause-start_differs
returns-in-Ok-keep_script-clause-start_differs g c = stored_start
    (g.F.Shelf.bytes c.args.shelf.now c.args.name.now) (g.D.Disk.bytes c.args.disk.now) c.in-Ok.script c.in-Ok.ensures.read
    c.in-Ok.ensures.only (g.W.Sink.written c.args.out.now) (g.W.Sink.written c.write_kept.new.out) c.in-Ok-keep_script.count
    c.in-Ok-keep_script.ensures.judged c.write_kept.result c.write_kept.ensures.written

pub returns-in-Ok-keep_script-clause-any_moment : goal.returns-in-Ok-keep_script-clause-any_moment
returns-in-Ok-keep_script-clause-any_moment g c = run_left
    (g.F.Shelf.bytes c.args.shelf.now c.args.name.now) (g.D.Disk.bytes c.args.disk.now) c.in-Ok.script c.in-Ok.ensures.read
    c.in-Ok.ensures.only g.D.Disk.moment g.D.Disk.left_since (g.D.Disk.may_leave c.args.disk.now) c.args.disk.now c.keep_script.new.disk
    (g.D.Disk.bytes c.args.disk.now) c.keep_script.ensures.any_moment

pub returns-in-Err-keep_script-clause-damaged : goal.returns-in-Err-keep_script-clause-damaged
returns-in-Err-keep_script-clause-damaged g c = stopped_damage
    (g.F.Shelf.bytes c.args.shelf.now c.args.name.now) (g.D.Disk.bytes c.args.disk.now) c.in-Ok.script c.in-Ok.ensures.read
    c.in-Ok.ensures.only (g.D.Disk.faults c.args.disk.now) (g.D.Disk.faults c.keep_script.new.disk) c.in-Err-keep_script.status
    c.in-Err-keep_script.ensures.stops c.in-Err-keep_script.ensures.judged

pub returns-in-Err-keep_script-clause-start_differs : goal.returns-in-Err-keep_script-clause-start_differs
returns-in-Err-keep_script-clause-start_differs g c = stopped_start
    (g.F.Shelf.bytes c.args.shelf.now c.args.name.now) (g.D.Disk.bytes c.args.disk.now) c.in-Ok.script c.in-Ok.ensures.read
    c.in-Ok.ensures.only (g.D.Disk.faults c.args.disk.now) (g.D.Disk.faults c.keep_script.new.disk) c.in-Err-keep_script.status
    c.in-Err-keep_script.ensures.stops c.in-Err-keep_script.ensures.judged

pub returns-in-Err-keep_script-clause-does : goal.returns-in-Err-keep_script-clause-does
returns-in-Err-keep_script-clause-does g c = stopped_does
    (g.F.Shelf.bytes c.args.shelf.now c.args.name.now) (g.D.Disk.bytes c.args.disk.now) c.in-Ok.script c.in-Ok.ensures.read
    c.in-Ok.ensures.only (g.D.Disk.faults c.args.disk.now) (g.D.Disk.faults c.keep_script.new.disk) c.in-Err-keep_script.status
    c.in-Err-keep_script.ensures.stops c.in-Err-keep_script.ensures.judged

pub returns-in-Err-keep_script-clause-any_moment : goal.returns-in-Err-keep_script-clause-any_moment
returns-in-Err-keep_script-clause-any_moment g c = run_left
    (g.F.Shelf.bytes c.args.shelf.now c.args.name.now) (g.D.Disk.bytes c.args.disk.now) c.in-Ok.script c.in-Ok.ensures.read
    c.in-Ok.ensures.only g.D.Disk.moment g.D.Disk.left_since (g.D.Disk.may_leave c.args.disk.now) c.args.disk.now c.keep_script.new.disk
    (g.D.Disk.bytes c.args.disk.now) c.keep_script.ensures.any_moment
