use Rattle.df_script_text.proofs.Names.{ScriptLine}
use Rattle.df_script_text.proofs.Called.{call_found, call_onward, unit_stands}
use Rattle.df_script_text.proofs.call.call_at.Goals as goal

pub between-words-requires-clause-order : goal.between-words-requires-clause-order
between-words-requires-clause-order c =
    let line : ScriptLine = record { actor = c.in-Ok.actor; call = c.in-Ok-read_call_at.call } in
    let told = c.in-Ok-read_call_at.ensures in
    call_onward c.args.bytes.now _ c.in-Ok.behind _ line c.requires told.0
    (unit_stands c.args.bytes.now c.args.at c.in-Ok.behind _ c.in-Ok.ensures.1) (told.2, told.1)

pub returns : goal.returns
returns c =
    let line : ScriptLine = record { actor = c.in-Ok.actor; call = c.in-Ok-read_call_at.call } in
    let told = c.in-Ok-read_call_at.ensures in
    rw c.between-words.ensures (call_found c.args.bytes.now _ c.in-Ok.behind _ line c.requires told.0
    (unit_stands c.args.bytes.now c.args.at c.in-Ok.behind _ c.in-Ok.ensures.1) (told.2, told.1))
