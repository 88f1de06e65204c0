use Rattle.df_tables.proofs.Names.{◌≡◌, ◌++◌, ℕ, List, Some, length, ap, sym, subst, ◌∙◌, Contains, Pair, IsReceiver, ManagedSubscription, Label, apply, FilterIndex, rows_in, receivers_by, AreCalled, places_by, event_place, inputs, parts_of, EventRow, Unit}
use Rattle.std.specs.Prelude.{◌↔◌}
use Rattle.df_index.specs.Filter.{matches}
use Rattle.df_tables.proofs.board.Board.make_ready.Goals as goal

pub returns-clause-ready : goal.returns-clause-ready
returns-clause-ready c =
    let commit = c.args.commit.now in
    let mid = c.make_places.new.self in
    let same = c.make_places.ensures.same in
    let made = c.in_ok-make_places.ensures in
    let after = c.args.after in
    let place = c.args.place in
    let called = c.args.called in
    let to = c.in_ok-to.to in
    let fresh : mid.labels.items ≡ inputs mid.rows.items = c.make_places.ensures.labels ∙ c.requires.fresh ∙ ap inputs (sym same.rows) in record {
      place = ap (event_place commit.event) same.events ∙ c.requires.place;
      after = c.requires.after ∙ ap (λ (evs : List EventRow). apply commit.edit (parts_of commit.event evs)) (sym same.events);
      ascending = c.in_ok-to.ensures.ascending;
      due = λ p. subst (λ (x : FilterIndex). Contains to p ↔ IsReceiver matches (inputs mid.rows.items) x place after commit.edit p) (sym c.in_ok-to.ensures.ready)
          (subst (λ (ls : List Label). Contains to p ↔ IsReceiver matches ls mid.index place after commit.edit p) (c.as_slice-labels.ensures.value ∙ fresh) (c.in_ok-to.ensures.due p));
      waits = ap (λ (x : FilterIndex). x.ready) c.in_ok-to.ensures.ready;
      called = subst (λ (us : List Unit). AreCalled us mid.managed mid.marks.handed commit place after called) (sym same.rows)
          (subst (λ (m : List ManagedSubscription). AreCalled c.args.self.now.rows.items m mid.marks.handed commit place after called) (sym same.managed)
          (subst (λ (h : List (List ℕ)). AreCalled c.args.self.now.rows.items c.args.self.now.managed h commit place after called) (sym same.told) c.requires.called));
      receivers = ap (receivers_by c.in_ok-both.both) (sym c.as_slice.ensures) ∙ c.in_ok-both.ensures ∙ ap (λ (ps : List Pair). ps ++ c.as_slice-2.result.now) c.as_slice.ensures ∙ ap (λ (ps : List Pair). to ++ ps) c.as_slice-2.ensures.value;
      marked = made.marked ∙ ap (λ (us : List Unit). Some (place, places_by (length us) called.pairs.items (rows_in called.born.items))) (sym same.rows);
    }

pub returns-clause-room : goal.returns-clause-room
returns-clause-room c =
    let room = c.in_ok-make_places.ensures.room in record { rows = room.rows; labels = room.labels; seats = room.seats }
