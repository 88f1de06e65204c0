use Rattle.std.proofs.Common.{◌≡◌, ◌∙◌, ap, arith, add-one, sym, take, take_all}
use Rattle.df_frozen.specs.Plain.{from_pairs}
use Rattle.df_frozen.specs.code.Counting.{name_byte_count}
use Rattle.df_frozen.specs.Limits.{counted}
use Rattle.df_frozen.proofs.Counts.{names_length, names_length-take, name_byte_count-named}
use Rattle.df_frozen.proofs.entries.Entries.name_byte_count.Goals as goal

pub loop-entry-preserved : goal.loop-entry-preserved
loop-entry-preserved c =
    let more = names_length-take c.as_slice-entry-items.result.now c.loop-entry.entry-index c.entry-item.result c.loop-entry-test.true in
    let here = rw (← c.entry-item.is, ← c.as_bytes.ensures.value) at more in
    rw (add-one, here) (omega (arith, c.loop-entry.invariant, c.saturating_add-count.ensures))

pub returns : goal.returns
returns c =
    let es = c.as_slice-entry-items.result.now in
    let whole : take c.loop-entry.entry-index es ≡ es = take_all c.loop-entry.entry-index es c.loop-entry-test.false in
    c.loop-entry.invariant ∙ ap (λ l. counted (names_length l)) whole ∙ ap counted (sym (name_byte_count-named es)) ∙ ap (λ l. counted (name_byte_count (from_pairs l))) c.as_slice-entry-items.ensures.value
