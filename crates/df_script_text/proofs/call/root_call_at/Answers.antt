use Rattle.df_script_text.proofs.Names.{root_call}
use Rattle.df_script_text.proofs.Called.{call_found, call_onward, root_stands}
use Rattle.df_script_text.proofs.call.root_call_at.Goals as goal

pub between-words-requires-clause-order : goal.between-words-requires-clause-order
between-words-requires-clause-order c =
    let told = c.in-Ok-read_call_at.ensures in
    let line = root_call c.in-Ok.root c.in-Ok-read_call_at.call in
    call_onward c.args.bytes.now _ c.in-Ok.behind _ line c.requires told.0
    (root_stands c.args.bytes.now c.args.at c.in-Ok.behind _ c.in-Ok.ensures.exact.1) (told.2, told.1)

pub returns : goal.returns
returns c =
    let told = c.in-Ok-read_call_at.ensures in
    let line = root_call c.in-Ok.root c.in-Ok-read_call_at.call in
    rw c.between-words.ensures (call_found c.args.bytes.now _ c.in-Ok.behind _ line c.requires told.0
    (root_stands c.args.bytes.now c.args.at c.in-Ok.behind _ c.in-Ok.ensures.exact.1) (told.2, told.1))
