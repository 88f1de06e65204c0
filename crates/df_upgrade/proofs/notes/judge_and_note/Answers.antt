use Rattle.std.proofs.Common.{◌≡◌, ◌∷◌, ◌++◌, [], ◌<◌, ℕ, List, length, drop, ap, reverse, sym, subst, ◌∙◌, arith, slice_index_or, append_assoc}
use Rattle.df_machine.specs.Journal.{State}
use Rattle.df_unit.specs.declared.entry.Entry.{Entry}
use Rattle.df_unit.specs.declared.entry.Noted.{Noted}
use Rattle.df_check.specs.Check.{IsFirstWrong}
use Rattle.df_upgrade.proofs.Kept.{first_wrong, so_far_more}
use Rattle.df_upgrade.proofs.notes.judge_and_note.Goals as goal

-- a list is its first element and what is behind it
first_is : (es : List Entry) (e : Entry) → 0 < length es → e ≡ slice_index_or es 0 e → es ≡ e ∷ drop 1 es
first_is [] e some at = grind (arith, some)
first_is (x ∷ es) e some at = ap (λ (y : Entry). y ∷ es) (sym at)

pub compare-requires : goal.compare-requires
compare-requires c = ((c.args.start.now, reverse c.entries.invariant.0), c.entries.invariant.1.made)

pub entries-preserved : goal.entries-preserved
entries-preserved c =
    let at = c.entries in
    let inv = at.invariant in
    let kept = c.in-Some.kept.now in
    let core : State = (c.args.start.now, reverse inv.0) in
    let moved = c.in_ok-note_first-in-Same.ensures in
    let same = rw c.in-Same.is at (c.in_ok-contamination.ensures.compares core inv.1.made) in
    let kept_is : kept ≡ moved.0 = grind (arith, c.in-Some.ensures.lookup, moved.1) in
    let pushed = moved.2 in (
      inv.0 ++ kept ∷ [],
      so_far_more c.args.start.now inv.0 kept at.tables at.notes.items inv.1 c.compare.new.tables c.note_first.new.to.items
          (c.in_ok-contamination.ensures.made core inv.1.made) same.0 (grind (arith, pushed, kept_is, same.1)),
      grind (arith, append_assoc, moved.1, kept_is, inv.2),
    )

pub returns-in-Other : goal.returns-in-Other
returns-in-Other c =
    let at = c.entries in
    let inv = at.invariant in
    let kept = c.in-Some.kept.now in
    let core : State = (c.args.start.now, reverse inv.0) in
    let tells = rw c.in-Other.is at (c.in_ok-contamination.ensures.compares core inv.1.made) in
    let some : 0 < length at.left.items = grind (arith, c.in-Some.ensures.item, c.in-Some.ensures.variant) in
    let rest = drop 1 at.left.items in
    let whole : inv.0 ++ kept ∷ rest ≡ c.args.journal.items = ap (λ (es : List Entry). inv.0 ++ es) (sym (first_is at.left.items kept some c.in-Some.ensures.lookup)) ∙ inv.2 in
    let count : c.len-place.result ≡ length at.notes.items = omega (arith, at.notes.ok.0, c.len-place.ensures) in
    let other = ap (λ (n : Noted). n.entry) tells.0 in
    subst (λ (place : ℕ). IsFirstWrong c.args.start.now c.args.journal.items place c.in-Other.expected.entry) (sym count)
    (first_wrong c.args.start.now inv.0 kept at.tables at.notes.items inv.1 c.args.journal.items rest c.in-Other.expected.entry whole (other, tells.1))
