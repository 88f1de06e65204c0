use Rattle.df_journal_file.proofs.Places.{more_passed}
use Rattle.df_journal_file.proofs.place.lines_at.Goals as goal

pub lines-preserved : goal.lines-preserved
lines-preserved g c =
    more_passed c.lines.lines.items c.push.new.self.items c.in_ok-line.line c.lines.invariant c.in_ok-line.ensures.0 c.in_ok-push.ensures.items
