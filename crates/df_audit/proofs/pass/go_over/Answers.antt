use Rattle.df_audit.proofs.Names.{[], ◌∷◌, ◌++◌}
use Rattle.df_audit.proofs.Passes.{ended_right, fewer_left}
use Rattle.df_audit.proofs.pass.go_over.Goals as goal

pub returns-in-Some : goal.returns-in-Some
returns-in-Some c right =
    let so = c.entries.invariant in
    let ended = rw c.in-Some.is at (c.in_ok-is_right.ensures so.0 c.args.cursor.now.bytes so.1 so.2) in
    ended_right c.args.wanted.now so.0 c.args.cursor.now.bytes so.1 c.entries.cursor c.take_next.new.cursor c.take_next.new.behind.tables
    c.take_next.new.made.count c.take_next.new.made.text.items c.in-Some.is_right ended right

pub entries-smaller : goal.entries-smaller
entries-smaller c =
    let so = c.entries.invariant in
    let taken = rw c.in_default.is at (c.in_ok-is_right.ensures so.0 c.args.cursor.now.bytes so.1 so.2) in
    fewer_left c.args.wanted.now so.0 c.args.cursor.now.bytes so.1 c.entries.cursor c.take_next.new.cursor c.entries.behind.tables
    c.take_next.new.behind.tables c.entries.made.count c.take_next.new.made.count c.entries.made.text.items c.take_next.new.made.text.items so.2 taken

pub entries-preserved : goal.entries-preserved
entries-preserved c =
    let so = c.entries.invariant in
    let taken = rw c.in_default.is at (c.in_ok-is_right.ensures so.0 c.args.cursor.now.bytes so.1 so.2) in
    (so.0, so.1 ++ taken.1.0 ∷ [], taken.1.1)
