use Rattle.std.proofs.Common.{◌≡◌, ℕ, ◌+◌, List, [], ◌∷◌, ◌++◌, ap, arith, drop, get_or, length, replicate, subst, sym, take, ◌∙◌}
use Rattle.std.proofs.Math.Seq.{take-append_seam}
use Rattle.df_why.specs.code.Arising.{QueueState}
use Rattle.df_why.specs.code.Queues.{IsStepped, IsTakenBelow, found_in}
use Rattle.df_why.specs.code.Tracks.{track_at}
use Rattle.df_why.specs.declared.found.Found.{Found}
use Rattle.df_why.specs.declared.tracks.Track.{Track}
use Rattle.df_why.proofs.Finding.{IsFindSoFar, any_entry, find_found, find_more, find_none, find_taken}
use Rattle.df_why.proofs.queues.find.Goals as goal

pub loop-place-init : goal.loop-place-init
loop-place-init c =
    subst (λ (l : List Found). IsFindSoFar c.args.start.now c.args.all.now.tables c.args.journal.now 0 c.in_ok-core.core c.in_ok-queues.queues.items l)
    (sym c.new-finds.ensures.items)
    (find_none c.args.start.now c.args.all.now.tables c.requires.numbered c.args.journal.now c.args.all.now.tracks.items c.requires.tracked
    c.requires.legal c.in_ok-core.core c.in_ok-queues.queues.items c.in_ok-core.ensures
    (c.in_ok-queues.ensures ∙ ap (λ (n : ℕ). let fresh : QueueState = record { taken = 0; places = [] } in replicate n fresh) c.len.ensures.len))

pub step-requires-clause-taken : goal.step-requires-clause-taken
step-requires-clause-taken c =
    let j = c.args.journal.now in
    let i = c.loop-place.place in
    let tracks = c.args.all.now.tracks.items in
    subst (λ (qs : List QueueState). IsTakenBelow (length j) (track_at tracks i).actor qs) (sym c.as_mut_slice-of.ensures.value)
    (find_taken c.args.start.now c.args.all.now.tables c.requires.numbered j tracks c.requires.tracked c.requires.legal i
    (any_entry j i c.loop-place-test.true) c.loop-place-test.true c.loop-place.core c.loop-place.queues.items c.loop-place.finds.items
    c.loop-place.invariant)

pub loop-place-preserved : goal.loop-place-preserved
loop-place-preserved c =
    let start = c.args.start.now in
    let tables = c.args.all.now.tables in
    let j = c.args.journal.now in
    let tracks = c.args.all.now.tracks.items in
    let i = c.loop-place.place in
    let d = any_entry j i c.loop-place-test.true in
    let core = c.loop-place.core in
    let queues = c.loop-place.queues.items in
    let finds = c.loop-place.finds.items in
    let new = c.step.new.core in
    let now = c.step.new.queues in
    let more = c.push.new.self.items in
    let size : length now ≡ c.loop-place.queues.len = omega arith in
    subst (λ (l : List QueueState). IsFindSoFar start tables j (i + 1) new l more)
    (sym (ap (λ (n : ℕ). take n (now ++ drop (length now) queues)) (sym size) ∙ take-append_seam now (drop (length now) queues)))
    (find_more start tables c.requires.numbered j tracks c.requires.tracked c.requires.legal i d c.loop-place-test.true core queues finds
    c.loop-place.invariant new now more (c.in_ok-step.ensures.core d)
    (subst (λ (qs : List QueueState). IsStepped core new (get_or j i d) tables.units (track_at tracks i) i qs now) c.as_mut_slice-of.ensures.value
    (c.in_ok-step.ensures.queues d))
    (subst (λ (ts : List Track). more ≡ finds ++ found_in c.as_slice.result.now (track_at ts i).actor ∷ [] → more ≡ finds ++ found_in queues (track_at tracks i).actor ∷ [])
    (sym c.as_slice-tracks.ensures.value)
    (λ is. is ∙ ap (λ (qs : List QueueState). finds ++ found_in qs (track_at tracks i).actor ∷ []) c.as_slice.ensures.value)
    (c.in_ok-push.ensures.items ∙ ap (λ (f : Found). finds ++ f ∷ []) c.found.ensures)))

pub returns-clause-found : goal.returns-clause-found
returns-clause-found c =
    find_found c.args.start.now c.args.all.now.tables c.requires.numbered c.args.journal.now c.args.all.now.tracks.items c.requires.tracked
    c.requires.legal c.loop-place.place c.loop-place.core c.loop-place.queues.items c.loop-place.finds.items c.loop-place-test.false
    c.loop-place.invariant
