use Rattle.df_audit.proofs.Names.{ℕ, IfSome, ap, arith, drop, length, length-append, refl, subst, ◌∙◌, Label, Option, State, past_of, read_call, stays_in}
use Rattle.std.specs.Option.{option_map}
use Rattle.df_value_text.specs.Fits.{IsLabel}
use Rattle.df_audit.proofs.Calls.{appends_call, call_fits, takes_call}
use Rattle.df_audit.proofs.called.take_call.Goals as goal

pub append_read-requires-clause-state : goal.append_read-requires-clause-state
append_read-requires-clause-state c = ((c.requires.heard.0, past_of c.requires.heard.2), c.requires.heard.4.come.made)

pub append_read-requires-clause-seated : goal.append_read-requires-clause-seated
append_read-requires-clause-seated c = (c.requires.heard.3, c.requires.heard.5.seated)

pub lines_from-requires : goal.lines_from-requires
lines_from-requires c =
    let core : State = (c.requires.heard.0, past_of c.requires.heard.2) in
    let read = c.requires.heard.5 in
    let made = c.in_ok-append_read.ensures core c.requires.heard.3 c.requires.heard.4.come.made read.seated read.spelled in
    omega (arith, ap length made.text, length-append {A = ℕ}, ap length c.as_slice.ensures.value)

pub overflow_add-made : goal.overflow_add-made
overflow_add-made c =
    let core : State = (c.requires.heard.0, past_of c.requires.heard.2) in
    let actor = c.requires.heard.3 in
    let so = c.requires.heard.4 in
    let read = c.requires.heard.5 in
    let made = c.in_ok-append_read.ensures core actor so.come.made read.seated read.spelled in
    let noted = subst (λ (n : Option Label). IfSome n IsLabel) (c.contamination-contamination.ensures core actor so.come.made read.seated)
    c.contamination_is_spelled.ensures in
    let appends = appends_call core actor (read_call c.args.call) _ (option_map (λ b. b.value) c.append_read.new.to.commit) c.append_read.new.behind.tables c.args.made.now.text.items
    c.append_read.new.text.items read.fits noted made in
    let lines = c.lines_from.ensures ∙ ap (drop c.len-before.result) c.as_slice.ensures.value in
    let fits = call_fits c.args.wanted.now c.requires.heard.0 c.requires.heard.1 c.requires.heard.2 c.args.cursor.now c.pass.new.self c.args.behind.now.tables
    c.append_read.new.behind.tables c.args.made.now.count c.args.made.now.text.items c.append_read.new.text.items c.lines_from.result.now
    c.len-before.result actor (read_call c.args.call) _ (option_map (λ b. b.value) c.append_read.new.to.commit) so appends (omega arith) lines c.requires.heard.6
    (c.if-not-pass.ensures.passed refl) (c.if-not-pass.ensures.further refl) c.if-not-pass.ensures.bytes c.if-not-pass.ensures.version in
    omega (arith, fits)

pub returns : goal.returns
returns c = λ roots bytes read actor so heard has.
    let core : State = (roots, past_of read) in
    let made = c.in_ok-append_read.ensures core actor so.come.made heard.seated heard.spelled in
    let told = c.contamination-contamination.ensures core actor so.come.made heard.seated in
    let noted = subst (λ (n : Option Label). IfSome n IsLabel) told c.contamination_is_spelled.ensures in
    let appends = appends_call core actor (read_call c.args.call) _ (option_map (λ b. b.value) c.append_read.new.to.commit) c.append_read.new.behind.tables c.args.made.now.text.items
    c.append_read.new.text.items heard.fits noted made in
    let lines = c.lines_from.ensures ∙ ap (drop c.len-before.result) c.as_slice.ensures.value in
    takes_call c.args.wanted.now roots bytes read c.args.cursor.now c.pass.new.self c.args.behind.now.tables c.append_read.new.behind.tables
    c.args.made.now.count c.args.made.now.text.items c.append_read.new.text.items c.lines_from.result.now c.len-before.result actor (read_call c.args.call)
    _ (option_map (λ b. b.value) c.append_read.new.to.commit) so appends (omega arith) lines has (c.if-not-pass.ensures.passed refl) (c.if-not-pass.ensures.further refl)
    c.if-not-pass.ensures.bytes c.if-not-pass.ensures.version c.leave.new.text.items c.stays-stays.result
    (c.stays-stays.ensures ∙ ap (stays_in c.args.wanted.now) told) c.label_left.ensures c.in_ok-leave.ensures.whole c.in_ok-leave.ensures.left
