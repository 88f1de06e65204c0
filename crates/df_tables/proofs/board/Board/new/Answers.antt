use Rattle.df_tables.proofs.Names.{◌≡◌, ◌<◌, ℕ, List, [], None, false, All, length, refl, ap, sym, subst, ◌∙◌, All-nil, Clause, Subscription, MarksState, AreNumbered, ManagedSubscription, rows, roots, Agrees, FilterIndex, managed_by, inputs, place_of, rows_from, EventRow, Unit}
use Rattle.df_index.specs.IndexState.{was_handed}
use Rattle.df_instances.specs.Marks as marks
use Rattle.df_tables.proofs.Begin.{agrees_first}
use Rattle.df_tables.proofs.Search.{ordered_apart}
use Rattle.df_tables.proofs.board.Board.new.Goals as goal

nobody : (e q : ℕ) → marks.was_handed [] e q ≡ false
nobody e q = refl

none_numbered : AreNumbered []
none_numbered j k m w here there owner sub = absurd (let z : ⊥ = cc in z)

pub returns-clause-tells : goal.returns-clause-tells
returns-clause-tells c starts is =
    let empty : c.new-4.result.handed ≡ [] = ap (λ (m : MarksState). m.handed) c.new-4.ensures in record {
      agrees =
          subst (λ (us : List Unit). Agrees rows (roots starts) [] us c.new.result c.new-2.result (managed_by c.new-3.result c.new-4.result.handed)) (sym is)
          (subst (λ (evs : List EventRow). Agrees rows (roots starts) [] (rows_from 0 starts) evs c.new-2.result (managed_by c.new-3.result c.new-4.result.handed)) (sym c.new.ensures)
          (subst (λ (x : FilterIndex). Agrees rows (roots starts) [] (rows_from 0 starts) [] x (managed_by c.new-3.result c.new-4.result.handed)) (sym c.new-2.ensures)
          (subst (λ (l : List ManagedSubscription). Agrees rows (roots starts) [] (rows_from 0 starts) [] (record { enrolled = []; handed = []; ready = None }) (managed_by l c.new-4.result.handed)) (sym c.new-3.ensures)
          (subst (λ (h : List (List ℕ)). Agrees rows (roots starts) [] (rows_from 0 starts) [] (record { enrolled = []; handed = []; ready = None }) (managed_by [] h)) (sym empty) (agrees_first starts None)))));
      numbered = subst AreNumbered (sym c.new-3.ensures) none_numbered;
      within = record {
        fresh = λ e q h. ap (λ (l : List (List ℕ)). marks.was_handed l e q) empty ∙ nobody e q;
        seated = λ e q h. ap (λ (l : List (List ℕ)). marks.was_handed l e q) empty ∙ nobody e q;
      };
    }

pub returns-clause-board : goal.returns-clause-board
returns-clause-board c =
    let us = c.args.rows.items in
    let empty = c.new-2.ensures in record {
      whole = record {
        apart = ordered_apart us c.requires.order;
        calm = c.requires.calm;
        enrolled = subst (λ (x : FilterIndex). All (λ s. s.unit < length us) x.enrolled) (sym empty) (All-nil (λ (s : Subscription (List Clause)). s.unit < length us));
        fresh = λ e p h. ap (λ (x : FilterIndex). was_handed x.handed e p) empty;
        seated = λ e p h. ap (λ (x : FilterIndex). was_handed x.handed e p) empty;
      };
      roll = λ n. c.in_ok-roll.ensures n ∙ ap (place_of n) c.as_slice-2.ensures.value;
      labels = c.in_ok-labels.ensures ∙ ap inputs c.as_slice.ensures.value;
    }
