use Rattle.std.proofs.Common.{sym}
use Rattle.std.specs.Option.{option_map}
use Rattle.std.proofs.lemmas.Result.{IfOk-weaker, on_err_weaker}
use Rattle.df_local.specs.Brief.{accepted_reply, brief_call}
use Rattle.df_machine.specs.declared.tables.Tables.{Tables}
use Rattle.df_machine.proofs.Steps.{renewed_on, stepped_alone}
use Rattle.df_machine.proofs.tables.Tables.step_brief.Goals as goal

pub make_brief-requires-clause-board : goal.make_brief-requires-clause-board
make_brief-requires-clause-board c = c.requires.agrees.1.board

pub make_brief-requires-clause-seated : goal.make_brief-requires-clause-seated
make_brief-requires-clause-seated c = (c.requires.seated.0, sym c.requires.seated.1)

abbrev after : (c : goal.After-make_brief) → Tables
after c = record { board = c.make_brief.new.self }

pub returns-clause-made : goal.returns-clause-made
returns-clause-made c =
    IfOk-weaker c.make_brief.result _ _
    (λ made is.
    stepped_alone c.args.place (brief_call c.args.brief) (option_map accepted_reply made) c.args.self.now (after c) c.make_brief.ensures.board is)
    c.make_brief.ensures.made

pub returns-clause-kept : goal.returns-clause-kept
returns-clause-kept c =
    on_err_weaker c.make_brief.result (λ same core agrees. renewed_on core c.args.self.now (after c) agrees c.make_brief.ensures.board same)
    c.make_brief.ensures.same
