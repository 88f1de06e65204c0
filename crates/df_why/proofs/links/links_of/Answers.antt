use Rattle.std.proofs.Common.{ℕ, ◌<◌, List, Option, ap, length, subst, sym, ◌∙◌}
use Rattle.df_machine.specs.Journal.{firsts}
use Rattle.df_why.specs.code.Links.{found_at, link_of}
use Rattle.df_why.specs.code.Tracks.{makes_at, track_at}
use Rattle.df_why.specs.declared.found.Found.{Found}
use Rattle.df_why.specs.declared.tracks.Track.{Track}
use Rattle.df_why.proofs.Knowing.{links_known, links_within}
use Rattle.df_why.proofs.links.links_of.Goals as goal

pub returns-clause-known : goal.returns-clause-known
returns-clause-known c =
    let tracks = c.args.all.now.tracks.items in
    let ts = c.as_slice-tracks.result.now in
    let value = c.as_slice-tracks.ensures.value in
    links_known (firsts c.args.start.now) c.args.journal.now c.args.all.now.tables tracks c.in_ok-finds.finds.items c.in_ok-made.made.items c.requires.legal
    c.requires.numbered c.requires.tracked
    (λ k lt. c.in_ok-made.ensures k (subst (λ (n : ℕ). k < n) (sym c.len.ensures.len) lt) ∙ ap (λ (l : List Track). makes_at k l (length l)) value)
    c.in_ok-finds.ensures.found c.in_ok-links.links.items (c.in_ok-links.ensures.count ∙ ap (λ (l : List Track). length l) value)
    (λ p lt.
    c.in_ok-links.ensures.each p (subst (λ (l : List Track). p < length l) (sym value) lt)
    ∙ ap (λ (l : List Track). link_of c.as_slice.result.now (track_at l p) (found_at c.as_slice-2.result.now p)) value
    ∙ ap (λ (m : List (Option ℕ)). link_of m (track_at tracks p) (found_at c.as_slice-2.result.now p)) c.as_slice.ensures.value
    ∙ ap (λ (fs : List Found). link_of c.in_ok-made.made.items (track_at tracks p) (found_at fs p)) c.as_slice-2.ensures.value)

pub returns-clause-within : goal.returns-clause-within
returns-clause-within c =
    let tracks = c.args.all.now.tracks.items in
    let ts = c.as_slice-tracks.result.now in
    let value = c.as_slice-tracks.ensures.value in
    links_within (firsts c.args.start.now) c.args.journal.now c.args.all.now.tables tracks c.in_ok-finds.finds.items c.in_ok-made.made.items c.requires.legal
    c.requires.numbered c.requires.tracked
    (λ k lt. c.in_ok-made.ensures k (subst (λ (n : ℕ). k < n) (sym c.len.ensures.len) lt) ∙ ap (λ (l : List Track). makes_at k l (length l)) value)
    c.in_ok-finds.ensures.found c.in_ok-links.links.items (c.in_ok-links.ensures.count ∙ ap (λ (l : List Track). length l) value)
    (λ p lt.
    c.in_ok-links.ensures.each p (subst (λ (l : List Track). p < length l) (sym value) lt)
    ∙ ap (λ (l : List Track). link_of c.as_slice.result.now (track_at l p) (found_at c.as_slice-2.result.now p)) value
    ∙ ap (λ (m : List (Option ℕ)). link_of m (track_at tracks p) (found_at c.as_slice-2.result.now p)) c.as_slice.ensures.value
    ∙ ap (λ (fs : List Found). link_of c.in_ok-made.made.items (track_at tracks p) (found_at fs p)) c.as_slice-2.ensures.value)
