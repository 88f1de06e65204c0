use Rattle.df_script_text.proofs.Names.{common_line}
use Rattle.df_script_text.proofs.Called.{call_found, call_onward, plain_stands, root_stands}
use Rattle.df_script_text.proofs.call.common_call_at.Goals as goal

pub between-words-requires-clause-order : goal.between-words-requires-clause-order
between-words-requires-clause-order c =
    let second = rw c.in-Ok-Some.field-0-is at c.in-Ok-Some.ensures in
    let line = common_line c.in-Ok.root c.in-Ok-Some.ask in
    call_onward c.args.bytes.now _ c.in-Ok.behind _ line c.requires second.0
    (root_stands c.args.bytes.now c.args.at c.in-Ok.behind _ c.in-Ok.ensures.exact.1) (plain_stands c.args.bytes.now c.in-Ok.behind c.in-Ok-Some.end _ second.1)

pub returns : goal.returns
returns c =
    let second = rw c.in-Ok-Some.field-0-is at c.in-Ok-Some.ensures in
    let line = common_line c.in-Ok.root c.in-Ok-Some.ask in
    rw c.between-words.ensures (call_found c.args.bytes.now _ c.in-Ok.behind _ line c.requires second.0
    (root_stands c.args.bytes.now c.args.at c.in-Ok.behind _ c.in-Ok.ensures.exact.1)
    (plain_stands c.args.bytes.now c.in-Ok.behind c.in-Ok-Some.end _ second.1))
