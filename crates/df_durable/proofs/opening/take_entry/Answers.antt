use Rattle.df_durable.proofs.Names.{subst}
use Rattle.df_image.specs.Reading.{TellsEntry}
use Rattle.df_durable.proofs.Takes.{taken}
use Rattle.df_durable.proofs.opening.take_entry.Goals as goal

pub returns-in-None : goal.returns-in-None
returns-in-None c =
    let none = subst (TellsEntry c.args.text.now) c.in-None.is c.in_ok-entry_of.ensures in
    record { none = λ entry whole right is. none.none entry whole is }

pub returns-in-Some : goal.returns-in-Some
returns-in-Some c = taken c.args.core.now c.is_made_again-is_answer.new.core c.args.text.now c.in-Some.entry
    (subst (TellsEntry c.args.text.now) c.in-Some.is c.in_ok-entry_of.ensures) c.is_made_again-is_answer.result c.is_made_again-is_answer.ensures.made
    c.is_made_again-is_answer.ensures.alike
