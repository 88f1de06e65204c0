use Rattle.df_floor_run.proofs.Names.{◌≡◌, ◌++◌, reverse, subst, sym, take, noted_text, State, firsts, AgreesWith, Legal, rows, Entry, noted_in, replayed}
use Rattle.df_floor_run.proofs.Told.{told_more}
use Rattle.df_floor_run.proofs.journal.append_past.Goals as goal

pub append_entry-requires : goal.append_entry-requires
append_entry-requires c = ((c.args.core.now.0, reverse (take c.loop-kept.kept-index c.journal-entries.result.now)), c.loop-kept.invariant.made)

pub loop-kept-preserved : goal.loop-kept-preserved
loop-kept-preserved c =
    let roots = c.args.core.now.0 in
    let entries = c.journal-entries.result.now in
    let past : State = (roots, reverse (take c.loop-kept.kept-index entries)) in
    let text = c.loop-kept.text.items in
    let told = subst (λ (kept : Entry). c.append_entry.new.text.items ≡ text ++ noted_text (noted_in past kept)) c.kept-item.is
    (c.in_ok-append_entry.ensures.text past c.loop-kept.invariant.made) in
    let made = subst (λ (kept : Entry). AgreesWith (replayed past kept) c.append_entry.new.tables) c.kept-item.is
    (c.in_ok-append_entry.ensures.made past c.loop-kept.invariant.made) in
    let legal = subst (Legal rows (firsts roots)) (sym c.journal-entries.ensures.journal) c.journal-entries.ensures.legal in
    told_more roots entries c.args.text.now.items legal c.loop-kept.kept-index c.kept-item.result c.loop-kept.tables c.append_entry.new.tables text
    c.append_entry.new.text.items c.loop-kept-test.true c.loop-kept.invariant told made
