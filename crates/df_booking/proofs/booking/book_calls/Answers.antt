use Rattle.std.proofs.Common.{◌≡◌, ◌+◌, length, ap, ◌∙◌}
use Rattle.std.specs.Prelude.{List, Option}
use Rattle.df_booking.specs.code.Renewal.{left_by}
use Rattle.df_booking.specs.code.Seeding.{count_of}
use Rattle.df_booking.proofs.Manning.{behind_is, longer}
use Rattle.df_booking.proofs.booking.book_calls.Goals as goal
use Rattle.df_machine.specs.Booking.{reply_booked}
use Rattle.df_machine.specs.Journal.{State}
use Rattle.df_turn.specs.declared.stage.Stage.{Stage}
use Rattle.df_unit.specs.declared.call.Call.{Call}
use Rattle.df_unit.specs.declared.entry.Entry.{Entry}

pub returns-in-Ok-clause-mind : goal.returns-in-Ok-clause-mind
returns-in-Ok-clause-mind g c =
    let going = c.args.going in
    c.behind.ensures ∙ behind_is going.state c.parted-shared.result.1 c.parted-shared.result.0 c.in-Ok.reply
    ∙ ap (λ (s : Stage). left_by going.state s c.in-Ok.reply) c.parted-shared.ensures.back
    ∙ ap (left_by going.state going.stage) (c.in-Ok.ensures.reply ∙ ap (λ (o : Option Call). reply_booked going.run o c.args.core.now) c.parted-shared.ensures.shared)

pub returns-in-Ok-clause-count : goal.returns-in-Ok-clause-count
returns-in-Ok-clause-count g c =
    let run = c.args.going.run in
    let n = length c.entries.result.now + c.count_of.result in
    let e : n ≡ length run.entries + count_of c.parted-shared.result.0 = ap (λ (k : List Entry). length k + c.count_of.result) c.entries.ensures.entries ∙ ap (λ k. length run.entries + k) c.count_of.ensures in
    ap (λ (k : State). length k.1) c.in-Ok.ensures.entries ∙ longer run c.args.core.now c.parted-shared.result.0 n e
