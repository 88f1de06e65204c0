-- The entries by numbers, as far as they are tracked.
use Rattle.std.proofs.Common.{◌≡◌, ◌⊎◌, inl, inr, ℕ, ◌+◌, ◌<◌, ◌≤◌, List, [], ◌∷◌, ◌++◌, length, get_or, sym, ◌∙◌, ap, subst, arith}
use Rattle.std.proofs.lemmas.Bool.{cases_lt}
use Rattle.std.proofs.lemmas.List.{get_or_append_left, get_or_default, length-append}
use Rattle.std.proofs.Math.Seq.{get_or-append_seam}
use Rattle.df_unit.specs.UnitOrder.{unit_cmp}
use Rattle.df_unit.specs.declared.entry.Entry.{Entry}
use Rattle.df_why.specs.code.Names.{actor_of, event_of, key_cmp, made_of, origin_in}
use Rattle.df_why.specs.code.Tracks.{AreNumbered, AreTracked, IsTrack, KeepNumbers, no_track, track_at}
use Rattle.df_why.specs.declared.tracks.Tables.{Tables}
use Rattle.df_why.specs.declared.tracks.Track.{Track}
use Rattle.df_why.proofs.Numbering.{finds_kept}

-- the first entries are tracked
pub record IsSoFar (tables : Tables) (tracks : List Track) (journal : List Entry) (i : ℕ) : Type 0 where
  pub numbered : AreNumbered tables
  pub count : length tracks ≡ i
  pub each : (p : ℕ) (d : Entry) → p < i → IsTrack tables (get_or journal p d) (track_at tracks p)

track_kept : (old new : Tables) → KeepNumbers old new → (e : Entry) (t : Track) → IsTrack old e t → IsTrack new e t
track_kept old new kept e t is = record {
  actor = finds_kept unit_cmp old.units new.units (actor_of e) t.actor kept.units is.actor;
  event = finds_kept key_cmp old.events new.events (event_of e) t.event kept.events is.event;
  origin = finds_kept unit_cmp old.origins new.origins (origin_in e) t.origin kept.origins is.origin;
  makes = finds_kept unit_cmp old.origins new.origins (made_of e) t.makes kept.origins is.makes;
  there = is.there;
  is_instance = is.is_instance;
  met = is.met;
  given = is.given;
}

pub so_far_more : (journal : List Entry) (i : ℕ) (d : Entry) (old new : Tables) (tracks now : List Track) (t : Track) → i < length journal
    → IsSoFar old tracks journal i → AreNumbered new → KeepNumbers old new → IsTrack new (get_or journal i d) t → now ≡ tracks ++ t ∷ [] →
    IsSoFar new now journal (i + 1)
so_far_more journal i d old new tracks now t inside so numbered kept is pushed = record {
  numbered = numbered;
  count = ap (λ (l : List Track). length l) pushed ∙ length-append tracks (t ∷ []) ∙ ap (λ (n : ℕ). n + 1) so.count;
  each = λ p e lt. subst (λ (l : List Track). IsTrack new (get_or journal p e) (track_at l p)) (sym pushed) (go p e lt (cases_lt p i));
}
  where
    go : (p : ℕ) (e : Entry) → p < i + 1 → (p < i) ⊎ (i ≤ p) → IsTrack new (get_or journal p e) (track_at (tracks ++ t ∷ []) p)
    go p e lt (inl before) =
        let n = so.count in
        subst (IsTrack new (get_or journal p e)) (sym (get_or_append_left tracks (t ∷ []) no_track p (omega (arith, before, n))))
        (track_kept old new kept (get_or journal p e) (track_at tracks p) (so.each p e before))
    go p e lt (inr after) =
        let n = so.count in
        let here : length tracks ≡ p = omega (arith, lt, after, n) in
        let at : i ≡ p = omega (arith, lt, after) in
        let newest : track_at (tracks ++ t ∷ []) p ≡ t = ap (track_at (tracks ++ t ∷ [])) (sym here) ∙ get_or-append_seam tracks t [] no_track in
        subst (IsTrack new (get_or journal p e)) (sym newest)
        (subst (λ (x : Entry). IsTrack new x t) (get_or_default journal i d e inside ∙ ap (λ (k : ℕ). get_or journal k e) at) is)

pub so_far_all : (journal : List Entry) (i : ℕ) (tables : Tables) (tracks : List Track) → length journal ≤ i → i ≤ length journal
    → IsSoFar tables tracks journal i → AreTracked tables tracks journal
so_far_all journal i tables tracks le ge so =
    let n = so.count in
    record { count = omega (arith, n, le, ge); each = λ p d lt. so.each p d (omega (arith, lt, le)) }
