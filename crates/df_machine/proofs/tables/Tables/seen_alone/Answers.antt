use Rattle.std.proofs.Common.{sym}
use Rattle.std.proofs.lemmas.Option.{IfSome_then}
use Rattle.std.specs.Prelude.{option_copied}
use Rattle.df_local.specs.Locally.{shows_one}
use Rattle.df_unit.specs.declared.entry.Effect.{Effect}
use Rattle.df_machine.proofs.Steps.{stepped}
use Rattle.df_machine.proofs.tables.Tables.seen_alone.Goals as goal

pub seen_alone-requires-clause-board : goal.seen_alone-requires-clause-board
seen_alone-requires-clause-board c = c.requires.agrees.1.board

pub seen_alone-requires-clause-seated : goal.seen_alone-requires-clause-seated
seen_alone-requires-clause-seated c = (c.requires.seated.0, sym c.requires.seated.1)

pub returns : goal.returns
returns c =
    let tables = c.args.self.now in
    IfSome_then (option_copied c.seen_alone.result) c.seen_alone.ensures
    (λ part is core actor agrees seated.
    stepped core actor c.args.place c.args.call.now (shows_one part, Effect.Nothing) tables tables agrees seated agrees.board is)
