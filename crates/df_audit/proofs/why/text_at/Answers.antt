use Rattle.df_audit.proofs.Grounds.{text_more}
use Rattle.df_audit.proofs.why.text_at.Goals as goal

pub loop-place-preserved : goal.loop-place-preserved
loop-place-preserved c =
    let i = c.loop-place.place-index in
    let within = c.loop-place-test.true in
    text_more c.args.start.now c.args.places.now c.args.notes.now i c.index-notes-place.result c.loop-place.text.items c.write_noted.new.to.items within
    (c.requires i 0 within) c.index-notes-place.is c.loop-place.invariant c.in_ok-write_noted.ensures.ok
