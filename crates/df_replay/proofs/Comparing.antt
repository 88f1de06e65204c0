-- A kept entry beside what a step tells.
use Rattle.std.proofs.Common.{◌≡◌, Option, Result, Ok, Err, OnOk, sym, subst}
use Rattle.df_label.specs.declared.label.Label.{Label}
use Rattle.df_local.specs.declared.answer.Answer.{Answer}
use Rattle.df_machine.specs.Journal.{State, answer_in, contamination_in}
use Rattle.df_unit.specs.declared.call.Call.{Call}
use Rattle.df_unit.specs.declared.entry.Effect.{Effect}
use Rattle.df_unit.specs.declared.entry.Entry.TheVariants.{Done}
use Rattle.df_unit.specs.declared.name.UnitName.{UnitName}
use Rattle.df_unit.specs.declared.reply.Reply.{Reply}
use Rattle.df_replay.specs.Replay.{Compares, ComparesTo}
use Rattle.df_replay.specs.declared.repeats.Compared.{Compared}

-- what holds holds where something was done
pub on_ok_always : {A E : Type 0} {P : Type 0} (r : Result A E) → P → OnOk r P
on_ok_always (Ok a) p = p
on_ok_always (Err e) p = tt

-- what is compared to the answer of a step is compared to what the rules give
pub step_compares : (core : State) (actor : UnitName) (call : Call) (reply : Reply) (effect : Effect) (answer : Answer) (contamination : Option Label) (compared : Compared)
    → answer_in core actor call ≡ (answer.reply, answer.effect) → contamination ≡ contamination_in core actor
    → ComparesTo (Done actor call answer.reply answer.effect) contamination (Done actor call reply effect) compared
    → Compares core (Done actor call reply effect) compared
step_compares core actor call reply effect answer contamination compared answered noted told =
    let kept = Done actor call reply effect in
    subst (λ (t : Reply × Effect). ComparesTo (Done actor call t.0 t.1) (contamination_in core actor) kept compared) (sym answered)
    (subst (λ (note : Option Label). ComparesTo (Done actor call answer.reply answer.effect) note kept compared) noted told)
