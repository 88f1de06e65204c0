use Rattle.std.proofs.Common.{List, sym, subst}
use Rattle.std.specs.Prelude.{◌↔◌}
use Rattle.std.specs.List.{Contains}
use Rattle.df_index.specs.Due.{IsDue, Pair}
use Rattle.df_index.specs.IndexState.{IndexState, IsReceiver}
use Rattle.df_index.proofs.index.Index.receivers.Goals as goal

pub returns-clause-due : goal.returns-clause-due
returns-clause-due g c p =
    subst (λ (l : List Pair). Contains l p ↔ IsReceiver g.F.Listed.matches c.args.labels.now c.args.self.now c.args.event c.args.contents.now c.args.edit.now p) (sym c.new.ensures)
    (subst (λ (x : IndexState g.row.F.Denot). Contains c.in_ok-found.found.items p ↔ IsReceiver g.F.Listed.matches c.args.labels.now x c.args.event c.args.contents.now c.args.edit.now p) c.self.view_is
    (subst (λ (handed : List Pair). Contains c.in_ok-found.found.items p ↔ IsDue g.F.Listed.matches c.args.labels.now handed c.args.contents.now c.args.edit.now c.self.inside.listing p) c.of_event.ensures.pairs
    (c.in_ok-found.ensures.due p)))
