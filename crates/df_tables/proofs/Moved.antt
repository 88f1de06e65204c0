-- The tables fit each other after an entry without a commit.
use Rattle.df_tables.proofs.Names.{◌≡◌, ℕ, ◌<◌, false, List, get_or, length, Option, Some, refl, ap, sym, subst, ◌∙◌, Clause, Label, rows, Call, Effect, Reply, IsBoard, IsMovedBoard, AreLabels, inputs, is_in_out, moved_row, names_of, Board, Unit}
use Rattle.df_tables.proofs.Boards.{inputs-modify, labels_stale, names-modify, whole_moved}
use Rattle.df_tables.proofs.Order.{roll_like}
use Rattle.df_tables.proofs.Inputs.{after_keeps}

module _ (k : ℕ) (c : Call) (r : Reply) (f : Effect) (made : Option (ℕ × List Clause)) (old new : Board) (within : k < length old.rows.items) (board : IsBoard old) (moved : IsMovedBoard k c r f made old new) where
  with_labels : (ls : List Label) (p : Option ℕ) → new.labels.items ≡ ls → new.stale ≡ p → AreLabels (inputs new.rows.items) ls p → IsBoard new
  with_labels ls p labels stale are = record {
    whole = whole_moved k c r f made old new within moved board.whole;
    roll = roll_like old.roll.seats new.roll.seats old.rows.items new.rows.items moved.roll
        (ap names_of moved.rows ∙ names-modify (moved_row rows c r f) (λ u. refl) k old.rows.items) board.roll;
    labels = subst (λ (l : List Label). AreLabels (inputs new.rows.items) l new.stale) (sym labels)
        (subst (λ (q : Option ℕ). AreLabels (inputs new.rows.items) ls q) (sym stale) are);
  }

  -- where the call changes no label
  pub board_other : is_in_out c ≡ false → new.labels.items ≡ old.labels.items → new.stale ≡ old.stale → IsBoard new
  board_other quiet labels stale =
      let us = old.rows.items in
      let same : inputs new.rows.items ≡ inputs us = ap inputs moved.rows
      ∙ inputs-modify (moved_row rows c r f) k us (λ d i. let u = get_or us k d in after_keeps u.local.unit u.local.own c r f quiet) in
      with_labels old.labels.items old.stale labels stale (subst (λ (l : List Label). AreLabels l old.labels.items old.stale) (sym same) board.labels)

  -- where it may change that of its unit, and all others are those of now
  pub board_reader : new.labels.items ≡ inputs old.rows.items → new.stale ≡ Some k → IsBoard new
  board_reader labels stale =
      with_labels (inputs old.rows.items) (Some k) labels stale
      (subst (λ (us : List Unit). AreLabels (inputs us) (inputs old.rows.items) (Some k)) (sym moved.rows) (labels_stale (moved_row rows c r f) k old.rows.items within))
