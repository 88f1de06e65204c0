use Rattle.df_journal_file.proofs.Names.{EndsFile, IsWholeBy, drop, refl, rules, All-nil}
use Rattle.df_journal_file.proofs.Places.{more_passed, none_here}
use Rattle.df_journal_file.proofs.file.entries_at.Goals as goal

pub entries-init : goal.entries-init
entries-init c = (rw c.new-entries.ensures.items (none_here c.requires (All-nil (IsWholeBy c.args.has_notes)) refl), λ f s. s)

pub entries-preserved : goal.entries-preserved
entries-preserved c =
    let read = c.in_ok-noted.ensures in
    (more_passed _ _ _ c.entries.invariant.0 read.read c.in_ok-push.ensures.items, λ f s. c.entries.invariant.1 f (read.onto f s))

pub returns-clause-read : goal.returns-clause-read
returns-clause-read c =
    let ends : EndsFile (drop c.entries.place c.args.bytes.now) = search rules in
    let passed = c.entries.invariant.0 in
    (drop c.entries.place c.args.bytes.now, passed.fits, ends, passed.parts)
