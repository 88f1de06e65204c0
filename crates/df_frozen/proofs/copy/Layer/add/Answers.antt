use Rattle.std.proofs.Common.{◌≡◌, subst, arith, length, get_or}
use Rattle.df_frozen.proofs.Copies.{items_more, entries_more}
use Rattle.df_frozen.proofs.copy.Layer.add.Goals as goal

pub returns-in_ok-push-in-Items-clause-copied : goal.returns-in_ok-push-in-Items-clause-copied
returns-in_ok-push-in-Items-clause-copied c =
    let copied = rw c.in-Items.is at c.requires.copied in
    let copy = rw c.in-Items.is at c.requires.copy in
    rw c.in_ok-push-in-Items.ensures.items (items_more c.in-Items.made.items c.in-Items.from.now c.args.value copied copy).0

pub returns-in_ok-push-in-Items-clause-rest : goal.returns-in_ok-push-in-Items-clause-rest
returns-in_ok-push-in-Items-clause-rest c =
    let copied = rw c.in-Items.is at c.requires.copied in
    let copy = rw c.in-Items.is at c.requires.copy in
    rw (c.in-Items.is, c.in_ok-push-in-Items.ensures.items) (items_more c.in-Items.made.items c.in-Items.from.now c.args.value copied copy).1

pub returns-in_ok-push-in-Map-clause-copied : goal.returns-in_ok-push-in-Map-clause-copied
returns-in_ok-push-in-Map-clause-copied c =
    let copied = rw c.in-Map.is at c.requires.copied in
    let copy = rw c.in-Map.is at c.requires.copy in
    let n : c.len.result ≡ length c.in-Map.made.items = grind (arith, c.len.ensures, c.in-Map.made.ok) in
    let es = c.as_slice.result.now in
    let e = get_or es c.len.result c.index-as_slice-len.result in
    let at : e ≡ get_or es c.len.result e = subst (λ x. x ≡ get_or es c.len.result x) c.index-as_slice-len.is c.index-as_slice-len.is in
    let more = entries_more c.in-Map.made.items es c.in-Map.from.now c.len.result e c.args.value c.as_slice.ensures.value copied.0 n at copy in
    rw c.in_ok-push-in-Map.ensures.items (more.0, copied.1)

pub returns-in_ok-push-in-Map-clause-rest : goal.returns-in_ok-push-in-Map-clause-rest
returns-in_ok-push-in-Map-clause-rest c =
    let copied = rw c.in-Map.is at c.requires.copied in
    let copy = rw c.in-Map.is at c.requires.copy in
    let n : c.len.result ≡ length c.in-Map.made.items = grind (arith, c.len.ensures, c.in-Map.made.ok) in
    let es = c.as_slice.result.now in
    let e = get_or es c.len.result c.index-as_slice-len.result in
    let at : e ≡ get_or es c.len.result e = subst (λ x. x ≡ get_or es c.len.result x) c.index-as_slice-len.is c.index-as_slice-len.is in
    let more = entries_more c.in-Map.made.items es c.in-Map.from.now c.len.result e c.args.value c.as_slice.ensures.value copied.0 n at copy in
    rw (c.in-Map.is, c.in_ok-push-in-Map.ensures.items) more.1
