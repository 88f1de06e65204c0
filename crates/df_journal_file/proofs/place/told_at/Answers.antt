use Rattle.df_journal_file.proofs.Places as lemmas
use Rattle.df_journal_file.proofs.place.told_at.Goals as goal

pub returns : goal.returns
returns g c =
    let here = c.line_here-next.result in
    let mark = c.args.mark.now in
    rw c.finished.ensures
    (lemmas.told_at (g.L.Told.text mark) g.L.Told.Fits (g.L.Told.IsLarge mark) (g.met.L.Told.small mark) c.args.bytes.now c.args.at here.0.now here.1
    c.line_here-next.ensures c.read.result c.read.ensures)
