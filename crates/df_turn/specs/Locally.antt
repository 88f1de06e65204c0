-- A turn apart from all other units: where its local calls lead, and how they end.
use Rattle.std.specs.Prelude.{◌≡◌, ℕ, Bool, zero, suc, false, if◌then◌else◌, List, [], ◌∷◌, Option, Some, None, refl}
use Rattle.std.specs.Coded.{Coded, code_by, coded×, coded_bool, coded_option}
use Rattle.df_turn.specs.declared.ready.Ready.{Ready}
use Rattle.df_turn.specs.declared.ready.Ready.TheVariants.{Long, Shared, Waiting}
use Rattle.df_local.specs.Locally.{row_answer}
use Rattle.df_local.specs.code.LocalState.{LocalState, local_code}
use Rattle.df_local_run.specs.Runs.{IsLocalEntry, is_local, local_entry, moved_by}
use Rattle.df_rules.specs.Follows.{Brain, Calls, Last, Replied, Start, Wait, Want}
use Rattle.df_unit.specs.contracts.reply.Reply as reply
use Rattle.df_unit.specs.declared.entry.Entry.{Entry}
use Rattle.df_unit.specs.declared.entry.Entry.TheVariants.{Done, Emitted}
use Rattle.df_unit.specs.declared.reply.Reply.{Reply}

-- whether a local call is wanted
abbrev pub wants_local : Want → Bool
wants_local (Calls c) = is_local c
wants_local Wait = false

-- the most local calls of a turn
unfoldable pub most_local : ℕ
most_local = 1_024

-- a turn: the unit and its brain as the turn began, and whether it was advanced
pub record TurnState (B : Type 0) : Type 0 where
  pub unit : LocalState
  pub state : B
  pub last : Last
  pub is_ready : Bool

-- the reply of which a brain is told, if any
abbrev reply_told : Last → Option Reply
reply_told Start = None
reply_told (Replied r) = Some r

abbrev told_by : Option Reply → Last
told_by None = Start
told_by (Some r) = Replied r

abbrev same_told : (l : Last) → told_by (reply_told l) ≡ l
same_told Start = refl
same_told (Replied r) = refl

-- what a brain is told is stored as a reply, or nothing
abbrev last_code : Coded Last
last_code = code_by (Option Reply) (coded_option reply.the_row.coded) reply_told told_by same_told

-- a brain as it is kept is stored as its state and what it is told next
abbrev pub mind_code : {B : Type 0} → Coded B → Coded (B × Last)
mind_code code = coded× code last_code

-- a turn is stored as its parts
abbrev pub turn_code : {B : Type 0} → Coded B → Coded (TurnState B)
turn_code {B} code =
    code_by (LocalState × (B × (Last × Bool)))
    (coded× local_code (coded× code (coded× last_code coded_bool)))
    (λ t. (t.unit, (t.state, (t.last, t.is_ready))))
    (λ p. record { unit = p.0; state = p.1.0; last = p.1.1.0; is_ready = p.1.1.1 })
    (λ _. refl)

-- the unit after a local call that is wanted
abbrev pub moved_want : LocalState → Want → LocalState
moved_want l (Calls c) = moved_by l (local_entry l c)
moved_want l Wait = l

-- what the brain is told after a local call that is wanted
abbrev pub told_want : LocalState → Want → Last
told_want l (Calls c) = Replied (row_answer l [] c).0
told_want l Wait = Start

-- what a call that isn't local, or a wait, makes of a turn
abbrev pub ready_by : Want → Ready
ready_by (Calls c) = Shared
ready_by Wait = Waiting

-- how a turn ends, which may have so many local calls yet: Long where it makes them all, and else
-- by what is then wanted
abbrev pub ready_from : {B : Type 0} → Brain B → ℕ → LocalState → B → Last → Ready
ready_from brain zero l x last = Long
ready_from brain (suc n) l x last = if wants_local (brain.next x last).0
    then ready_from brain n (moved_want l (brain.next x last).0) (brain.next x last).1
    (told_want l (brain.next x last).0)
    else ready_by (brain.next x last).0

-- how a turn ends
abbrev pub ready_of : {B : Type 0} → Brain B → TurnState B → Ready
ready_of brain t = ready_from brain most_local t.unit t.state t.last

-- the entries are local calls that are wanted in turn, and lead from the first unit and brain to
-- the second
abbrev pub RunsTo : {B : Type 0} → Brain B → List Entry → LocalState → B × Last → LocalState →
    B × Last → Type 0
RunsTo brain [] l m present now = (l ≡ present) × (m ≡ now)
RunsTo brain (Done a c r f ∷ es) l m present now = ((brain.next m.0 m.1).0 ≡ Calls c)
    × IsLocalEntry l (Done a c r f)
    × RunsTo brain es (moved_by l (Done a c r f)) ((brain.next m.0 m.1).1, Replied r) present now
RunsTo brain (Emitted c ∷ es) l m present now = ⊥
