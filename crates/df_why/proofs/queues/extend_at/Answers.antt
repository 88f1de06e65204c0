use Rattle.std.proofs.Common.{Option, ℕ, ap, get_or, sym, ◌∙◌}
use Rattle.df_why.specs.code.Arising.{extended}
use Rattle.df_why.specs.code.Queues.{grown, grown_at}
use Rattle.df_why.proofs.Growing.{modify_past, modify_set}
use Rattle.df_why.proofs.queues.extend_at.Goals as goal

pub returns-in_ok-extend : goal.returns-in_ok-extend
returns-in_ok-extend c =
    let core = c.args.core.now in
    let unit = c.args.unit.now in
    let queues = c.args.queues.now in
    let number = c.in-Some.number in
    let d = c.index-queues-number.result in
    modify_set number (grown core unit c.args.place) queues d c.extend.new.self c.if-number-queues.true
    (c.in_ok-extend.ensures ∙ ap (λ (n : ℕ). extended (get_or queues number d) n c.args.place) c.left.ensures)
    ∙ ap (λ (n : Option ℕ). grown_at core unit n c.args.place queues) (sym c.in-Some.is)

pub returns-else-number-queues : goal.returns-else-number-queues
returns-else-number-queues c =
    let core = c.args.core.now in
    let unit = c.args.unit.now in
    let queues = c.args.queues.now in
    sym (modify_past c.in-Some.number (grown core unit c.args.place) queues c.if-number-queues.false)
    ∙ ap (λ (n : Option ℕ). grown_at core unit n c.args.place queues) (sym c.in-Some.is)
