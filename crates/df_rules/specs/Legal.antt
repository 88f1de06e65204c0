-- The answer to a call after the entries of a journal, and which journals are legal: those whose
-- every entry is the answer.
use Rattle.std.specs.Prelude.{◌≡◌, ⊤, List, [], ◌∷◌, drop, Option, Some, None, ◌++◌, reverse}
use Rattle.df_rules.specs.Deliveries.{deliveries}
use Rattle.df_rules.specs.Own.{own}
use Rattle.df_rules.specs.Rules.{Rules}
use Rattle.df_unit.specs.OwnState.{OwnState}
use Rattle.df_unit.specs.declared.call.Call.{Call}
use Rattle.df_unit.specs.declared.commit.Given.{Given}
use Rattle.df_unit.specs.declared.entry.Effect.{Effect}
use Rattle.df_unit.specs.declared.entry.Entry.{Entry}
use Rattle.df_unit.specs.declared.entry.Entry.TheVariants.{Done, Emitted}
use Rattle.df_unit.specs.declared.name.UnitName.{UnitName}
use Rattle.df_unit.specs.declared.reply.Reply.{Reply}

-- of a unit's deliveries those that it didn't take
abbrev pub left : OwnState → List Given → List Given
left st ds = drop st.given ds

abbrev pub answer_of : Rules → UnitName → Option OwnState → List Given → Call → Reply × Effect
answer_of R u None ds call = (Reply.NoSuchUnit, Effect.Nothing)
answer_of R u (Some st) ds call = R.answer u st (left st ds) call

-- the reply and the effect of a call
abbrev pub answer : Rules → List OwnState → List Entry → UnitName → Call → Reply × Effect
answer R s past u call = answer_of R u (own R s past u) (deliveries R s past u) call

-- the entry of a call with its answer
abbrev pub answered : Rules → List OwnState → List Entry → UnitName → Call → Entry
answered R s past u call = Done u call (answer R s past u call).0 (answer R s past u call).1

-- the entry is the answer after those before it; an emitted one may stand anywhere
abbrev pub IsRight : Rules → List OwnState → List Entry → Entry → Type 0
IsRight R s past (Done u call r f) = answer R s past u call ≡ (r, f)
IsRight R s past (Emitted c) = ⊤

abbrev pub Legal : Rules → List OwnState → List Entry → Type 0
Legal R s [] = ⊤
Legal R s (e ∷ past) = Legal R s past × IsRight R s past e

-- with the oldest entry first: each entry is the answer to those before it
abbrev pub IsRightAtEach : Rules → List OwnState → List Entry → Type 0
IsRightAtEach R s j = (before later : List Entry) (e : Entry) → j ≡ before ++ e ∷ later →
    IsRight R s (reverse before) e

abbrev pub IsDone : Entry → Type 0
IsDone (Done u call r f) = ⊤
IsDone (Emitted c) = ⊥

-- no entry is emitted
abbrev pub IsUnaided : List Entry → Type 0
IsUnaided [] = ⊤
IsUnaided (e ∷ past) = IsUnaided past × IsDone e

-- the actors and calls, the newest first
abbrev pub calls_of : List Entry → List (UnitName × Call)
calls_of [] = []
calls_of (Done u call r f ∷ past) = (u, call) ∷ calls_of past
calls_of (Emitted c ∷ past) = calls_of past

-- the journal of these actors and calls
abbrev pub run : Rules → List OwnState → List (UnitName × Call) → List Entry
run R s [] = []
run R s (c ∷ calls) = answered R s (run R s calls) c.0 c.1 ∷ run R s calls
