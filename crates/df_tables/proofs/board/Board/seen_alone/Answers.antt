use Rattle.df_tables.proofs.Names.{ap, sym, ◌∙◌}
use Rattle.std.proofs.lemmas.Option.{IfSome_then}
use Rattle.std.specs.Prelude.{option_copied}
use Rattle.df_local.specs.Locally.{shows_one}
use Rattle.df_tables.proofs.Alone.{stays_alone}
use Rattle.df_tables.proofs.board.Board.seen_alone.Goals as goal

pub returns : goal.returns
returns c =
    let row = sym c.row.ensures ∙ ap option_copied c.in_ok-row.was in
    IfSome_then (option_copied c.seen_alone.result) c.seen_alone.ensures
    (λ part is. stays_alone c.requires.seated.0 c.args.place c.args.call.now (shows_one part) c.in_ok-row.field-0.now c.args.self.now c.requires.seated.1
    c.requires.board row is)
