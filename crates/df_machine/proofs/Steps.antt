-- A step of the tables, which keep no journal.
use Rattle.std.proofs.Common.{◌≡◌, ℕ, List, ◌∷◌, Option, None, Some, map, ap, sym, subst, ◌∙◌}
use Rattle.df_start.specs.Begun.{begun}
use Rattle.df_tables.specs.Board.{IsBoard, IsKept, IsMade, IsRenewed, MakesAlone, MakesClosing, TellsOf, answer_from}
use Rattle.df_tables.specs.Table.{place_of}
use Rattle.df_tables.specs.declared.units.Unit.{Unit}
use Rattle.df_tables.proofs.Booked.{answer_is, kept_renewed, row_is}
use Rattle.df_unit.specs.declared.call.Call.{Call}
use Rattle.df_unit.specs.declared.entry.Effect.{Effect}
use Rattle.df_unit.specs.declared.entry.Entry.TheVariants.{Done}
use Rattle.df_unit.specs.declared.name.UnitName.{UnitName}
use Rattle.df_unit.specs.declared.reply.Reply.{Reply}
use Rattle.df_machine.specs.Journal.{State, answer_in}
use Rattle.df_machine.specs.Tables.{AgreesWith, IsStep, Stays, StepsAlone, StepsClosing, place_in}
use Rattle.df_machine.specs.declared.tables.Tables.{Tables}

-- what a board makes of a call is the rules' answer, and its tables agree with one more entry
pub stepped : (core : State) (actor : UnitName) (place : Option ℕ) (call : Call) (a : Reply × Effect) (old new : Tables) → AgreesWith core old
    → place ≡ place_in old actor → IsBoard new.board → IsMade place call a old.board new.board → IsStep core actor call a new
stepped core actor place call a old new agrees seated board made =
    let starts = map begun core.0 in
    let row = row_is old.board actor place (sym seated) in
    let told : answer_in core actor call ≡ a =
    sym (answer_is starts core.1 old.board agrees.tells actor call) ∙ ap (λ (o : Option Unit). answer_from o call) (sym row) ∙ made.answer in
    record {
      answer = told;
      entry = record {
        board = board;
        tells = subst (λ (x : Reply × Effect). TellsOf starts (Done actor call x.0 x.1 ∷ core.1) new.board) (sym told)
            (made.booked actor (sym seated) starts core.1 agrees.tells);
      };
    }

-- where the tables tell what they told, they agree with what they agreed with
pub kept_on : (core : State) (old new : Tables) → AgreesWith core old → IsBoard new.board → IsKept old.board new.board → AgreesWith core new
kept_on core old new agrees board kept = record { board = board; tells = kept (map begun core.0) core.1 agrees.tells }

pub renewed_on : (core : State) (old new : Tables) → AgreesWith core old → IsBoard new.board → IsRenewed old.board new.board → AgreesWith core new
renewed_on core old new agrees board same = kept_on core old new agrees board (kept_renewed old.board new.board same)

stays_on : (old new : Tables) → IsBoard new.board → IsRenewed old.board new.board → Stays old new
stays_on old new board same = record {
  agrees = λ core agrees. renewed_on core old new agrees board same;
  places = λ actor. ap (λ (us : List Unit). place_of actor us) same.rows;
}

-- and so where a call of the unit's own state alone is made, or none
pub stepped_alone : (place : Option ℕ) (call : Call) (made : Option Reply) (old new : Tables) → IsBoard new.board → MakesAlone place call made old.board new.board
    → StepsAlone place call made old new
stepped_alone place call None old new board same = stays_on old new board same
stepped_alone place call (Some reply) old new board made =
    λ core actor agrees seated. stepped core actor place call (reply, Effect.Nothing) old new agrees seated board made

-- and where a handle is closed, or not
pub stepped_closing : (place : Option ℕ) (call : Call) (made : Option Effect) (old new : Tables) → IsBoard new.board → MakesClosing place call made old.board new.board
    → StepsClosing place call made old new
stepped_closing place call None old new board is = (is.0, stays_on old new board is.1)
stepped_closing place call (Some effect) old new board made =
    λ core actor agrees seated. stepped core actor place call (Reply.Ok, effect) old new agrees seated board made
