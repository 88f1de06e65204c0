-- A get, in the tables.
use Rattle.df_tables.proofs.Names.{◌≡◌, ℕ, ◌<◌, Bool, true, false, List, [], ◌∷◌, get_or, set, length, Option, None, Some, Result, Ok, Err, IfOk, OnErr, if◌then◌else◌, refl, ap, sym, subst, ◌∙◌, get_or_default, row_answer, NoMemory, LocalState, commit_in, rows, first_given, handed, is_accepted, Get, Given, Effect, UnitName, Reply, IsBoard, IsMade, IsMovedBoard, answer_from, place_on, IsGiven, IsGivenAt, moved_row, Board, Unit}
use Rattle.df_tables.specs.Hand.{received_answer}
use Rattle.df_tables.specs.declared.moves.Received.{Received}
use Rattle.df_unit.specs.declared.entry.Effect.TheVariants as effect
use Rattle.df_tables.proofs.Alone.{IsBesideRows, board_alone, moved_beside}
use Rattle.df_tables.proofs.Booked.{booked_plain, found, place_in, row_is}
use Rattle.df_tables.proofs.Each.{set_modify}
use Rattle.df_tables.proofs.Moved.{board_other}

-- what a row's unit is given is given in the table
pub given_at : (k : ℕ) (a : Reply × Effect) (d : Unit) (us : List Unit) (new : Unit) → k < length us → IsGiven a (get_or us k d) new → IsGivenAt k a us (set us k new)
given_at k a d us new within given = record {
  answered = λ e i. subst (λ (v : Unit). row_answer v.local v.line.left Get ≡ (a.0, a.1)) (get_or_default us k d e within) given.answered;
  moved = ap (λ (v : Unit). set us k v) given.moved ∙ set_modify k (moved_row rows Get a.0 a.1) d us;
}

-- a get has no commit
pub no_commit : (l : LocalState) (left : List Given) (r : Reply) (f : Effect) → row_answer l left Get ≡ (r, f) → commit_in f ≡ None
no_commit l left r f e = ap (λ (a : Reply × Effect). commit_in a.1) (sym e) ∙ by left (is_accepted (handed l.own left))
  where
    by : (ds : List Given) (accepted : Bool) → commit_in (if accepted then first_given ds else effect.Nothing) ≡ None
    by ds false = refl
    by [] true = refl
    by (d ∷ ds) true = refl

module _ (a : UnitName) (k : ℕ) (x : Reply × Effect) (old new : Board) (here : place_on old a ≡ Some k) (board : IsBoard old) (beside : IsBesideRows old new)
    (given : IsGivenAt k x old.rows.items new.rows.items) where
  moved : IsMovedBoard k Get x.0 x.1 None old new
  moved = moved_beside k Get x.0 x.1 old new beside given.moved

  pub board_given : IsBoard new
  board_given = board_other k Get x.0 x.1 None old new (place_in a old.rows.items k here) board moved refl beside.labels beside.stale

  pub makes_given : IsMade (Some k) Get x old new
  makes_given =
      let row = found a old.rows.items k here in
      let answer = row.2 Get x.0 x.1 given.answered in
      record {
        answer = ap (λ (o : Option Unit). answer_from o Get) (row_is old a (Some k) here ∙ row.1) ∙ answer;
        booked = λ actor at.
            booked_plain actor k Get x.0 x.1 old new at refl refl given.answered (no_commit row.0.local row.0.line.left x.0 x.1 answer) board.whole moved beside.managed;
      }

-- whether memory was wanting or not, the tables fit each other
pub board_either : (a : UnitName) (k : ℕ) (old new : Board) → place_on old a ≡ Some k → IsBoard old → IsBesideRows old new
    → (r : Result Received NoMemory) → IfOk r (λ x. IsGivenAt k (received_answer x) old.rows.items new.rows.items) → OnErr r (new.rows.items ≡ old.rows.items) → IsBoard new
board_either a k old new here board beside (Ok x) given same = board_given a k (received_answer x) old new here board beside given
board_either a k old new here board beside (Err refused) given same = board_alone a k Get old new here board beside None same
