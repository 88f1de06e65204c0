use Rattle.std.proofs.Common.{length, refl, arith}
use Rattle.std.proofs.lemmas.Option.{slice_get_read}
use Rattle.df_index.specs.Occasion.{is_due_on}
use Rattle.df_index.proofs.Looked.{found_more}
use Rattle.df_index.proofs.due.due.Goals as goal

pub loop-place-preserved : goal.loop-place-preserved
loop-place-preserved g c =
    let s = c.index-subscriptions-place.result in
    let at = slice_get_read c.args.subscriptions.now (length c.args.subscriptions.now) _ s refl (c.requires.within c.loop-place.place-index 0 (omega arith)) c.index-subscriptions-place.is in
    let counted = c.add_if_due.ensures.bound in
    let before = c.loop-place.invariant.bound in
    record {
      due = found_more (is_due_on g.F.Listed.matches c.args.occasion.now) c.args.subscriptions.now c.args.places.now c.loop-place.place-index 0 s c.loop-place.found.items c.add_if_due.new.found.items (omega arith) at c.loop-place.invariant.due c.in_ok-add_if_due.ensures.found;
      bound = omega (arith, counted, before);
    }
