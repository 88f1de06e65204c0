use Rattle.df_audit.proofs.Passes.{made_of, so_far_more}
use Rattle.df_audit.proofs.pass.take_entry.Goals as goal

pub returns-in_ok-take_right-in-Right : goal.returns-in_ok-take_right-in-Right
returns-in_ok-take_right-in-Right c roots bytes read so =
    let one = rw c.in-Right.is at (c.in_ok-noted.ensures roots read so.come) in (
      one.further,
      (
        one.kept,
        so_far_more c.args.wanted.now roots bytes read c.args.cursor.now c.args.tables.now c.args.made.now.count c.args.made.now.text.items so
            c.in-Right.noted c.next_right.new.cursor c.next_right.new.tables
            c.take_right.new.made.count c.take_right.new.made.text.items one c.take_right.ensures.count c.in_ok-take_right-in-Right.ensures.text,
      ),
    )

pub returns-in-End : goal.returns-in-End
returns-in-End c roots bytes read so =
    let ends = rw c.in-End.is at (c.in_ok-noted.ensures roots read so.come) in
    made_of c.args.wanted.now roots bytes read c.args.cursor.now c.args.tables.now c.args.made.now.count c.args.made.now.text.items so ends
