-- Sets of tags are read as they are spelled.
use Rattle.df_value_text.proofs.Names.{viewed, subst, ◌≤◌, ◌≡◌, ℕ, Bool, true, eqb, List, [], ◌∷◌, ◌++◌, Option, Some, None, refl, sym, ap, ◌∙◌, append_assoc, length, arith, decimal, nat_list_cmp_total, is_lt, eqb-true, more_spell, items_spell, maybe_spell, CanGoOn, IsLocal, Format, Follow, Parts, ItemsFit, Leads, last_goes, items_goes, items_format, Shrinks, MaybeFits, maybe_goes, maybe_format, tag_cmp, path_text, tag_text, tags_text, IsTag, AreTags, IsTagSet, StandsLow, IsLowTag, tag_at, next_at, leads_tag, optional, tags_at, last_behind, last_of, IsAscending}
use Rattle.df_label.proofs.SetFacts.{below_trans}
use Rattle.df_label.proofs.TagSetFacts.{tag_cmp_exact}
use Rattle.df_value_text.proofs.NameLaws.{is_less}
use Rattle.df_value_text.proofs.TagLaws.{tag_ends_at, with_dot, joined_items, tag_goes, tag_format, Judges, judged_shorter, judged_format}
use Rattle.df_format.proofs.Laws.{Told}

-- ---- a tag above another

abbrev pub AfterTag : List ℕ → List ℕ → Type 0
AfterTag prev tag = IsTag tag × (is_lt (tag_cmp prev tag) ≡ true)

abbrev pub NearTag : List ℕ → List ℕ → List ℕ → Type 0
NearTag prev front rest = (front ≡ []) × StandsLow prev rest

-- a tag is above this one
abbrev is_above : List ℕ → List ℕ → Bool
is_above prev tag = is_lt (tag_cmp prev tag)

above_judges : (prev : List ℕ) → IsTag prev → Judges (is_above prev) (StandsLow prev)
above_judges prev fits = record {
  low = λ bytes tag more longest h. record { tag = tag; more = more; longest = longest; low = h };
  up = λ tag c h l. ap is_lt (nat_list_cmp_total.trans prev tag (l.first ∷ l.others) (is_less (tag_cmp prev tag) h) l.above);
  some = let l = with_dot prev fits in (l.first, l.others, (l.fits, ap is_lt l.above));
}

pub next_format : (prev : List ℕ) → IsTag prev → Format (NearTag prev) tag_text (AfterTag prev) tag_goes (next_at prev)
next_format prev fits = judged_format (is_above prev) (StandsLow prev) (above_judges prev fits)

-- ---- sets

pub low_is_local : IsLocal IsLowTag
low_is_local before front rest low = record {
  before = before ++ low.before;
  prev = low.prev;
  is = ap (λ (u : List ℕ). before ++ u) low.is ∙ sym (append_assoc before low.before (tag_text low.prev ++ 44 ∷ []));
  low = low.low;
}

pub next_shrinks : (prev : List ℕ) → Shrinks (next_at prev)
next_shrinks prev bytes tag rest e =
    subst (Told (λ y. length y.1 ≤ length bytes) (λ stop. Unit {0})) e (judged_shorter (is_above prev) bytes)

pub tags_parts : Parts NearTag leads_tag 44 tag_text IsTag AfterTag tag_goes next_at
tags_parts = record {
  item = λ prev cs fits h. next_format prev fits;
  shrinks = next_shrinks;
  fits = λ prev tag fits after. after.0;
  only = λ prev c cs h. eqb-true c 44 h;
  led = λ prev tag more fits after. refl;
  at_sep = λ tag fits. tag_ends_at tag 44 refl refl;
}

tags_lead : Leads IsLowTag NearTag leads_tag 44 tag_text IsTag AfterTag
tags_lead = record {
  first = λ prev c cs ds. refl;
  some = λ prev cs fits h. let l = with_dot prev fits in (l.first ∷ l.others, (l.fits, ap is_lt l.above));
  near = λ tag tags next front rest fits follow after near.
      let b = last_behind 44 tag_text tag tags in
      let last : List ℕ = tag_text (last_of tag tags) in
      record {
        before = b.0;
        prev = last_of tag tags;
        is = ap (λ (u : List ℕ). u ++ (44 ∷ front)) b.1 ∙ append_assoc b.0 last (44 ∷ front) ∙ ap (λ (u : List ℕ). b.0 ++ (last ++ (44 ∷ u))) near.0;
        low = near.1;
      };
}

ascend : (tag : List ℕ) (tags : List (List ℕ)) → Follow AfterTag tag tags → IsAscending tag_cmp (tag ∷ tags)
ascend tag [] h = (tt, tt)
ascend tag (next ∷ tags) h =
    let less = is_less (tag_cmp tag next) h.0.1 in
    let others = ascend next tags h.1 in
    ((less, below_trans tag_cmp tag_cmp_exact tag next tags less others.0), others)

all_tags : (tag : List ℕ) (tags : List (List ℕ)) → Follow AfterTag tag tags → AreTags tags
all_tags tag [] h = tt
all_tags tag (next ∷ tags) h = (h.0.0, all_tags next tags h.1)

pub follow_tags : (tag : List ℕ) (tags : List (List ℕ)) → AreTags tags → IsAscending tag_cmp (tag ∷ tags) → Follow AfterTag tag tags
follow_tags tag [] h a = tt
follow_tags tag (next ∷ tags) h a = ((h.0, ap is_lt a.0.0), follow_tags next tags h.1 a.1)

abbrev SomeFit : Option (List ℕ × List (List ℕ)) → Type 0
SomeFit tags = MaybeFits (ItemsFit IsTag AfterTag) tags

abbrev pub begins_tag : ℕ → Bool
begins_tag c = eqb c 35

abbrev pub tags_goes : List (List ℕ) → ℕ → Bool
tags_goes [] c = begins_tag c
tags_goes (tag ∷ tags) c = last_goes leads_tag tag_goes tag tags c

tags_to : (x : Option (List ℕ × List (List ℕ))) → SomeFit x → IsTagSet (optional x)
tags_to None h = (tt, tt)
tags_to (Some x) h = ((h.0, all_tags x.0 x.1 h.1), ascend x.0 x.1 h.1)

tags_from : (tags : List (List ℕ)) → IsTagSet tags → (x : Option (List ℕ × List (List ℕ))) × SomeFit x × (optional x ≡ tags)
tags_from [] h = (None, tt, refl)
tags_from (tag ∷ tags) h = (Some (tag, tags), (h.0.0, follow_tags tag tags h.0.1 h.1), refl)

tags_spelled : (x : Option (List ℕ × List (List ℕ))) → SomeFit x → tags_text (optional x) ≡ maybe_spell (items_spell 44 tag_text) x
tags_spelled None h = refl
tags_spelled (Some x) h = joined_items 44 tag_text x.0 x.1

tags_alike : (x : Option (List ℕ × List (List ℕ))) (c : ℕ) → SomeFit x → tags_goes (optional x) c ≡ maybe_goes begins_tag (items_goes leads_tag tag_goes) x c
tags_alike None c h = refl
tags_alike (Some x) c h = refl

tags_some : (c : ℕ) → begins_tag c ≡ true → CanGoOn (items_spell 44 tag_text) (ItemsFit IsTag AfterTag) (c ∷ [])
tags_some c h = record {
  some = (0 ∷ [], []);
  fits = ((omega arith, tt), tt);
  more = decimal 0 ++ [];
  is = ap (λ (v : ℕ). v ∷ (decimal 0 ++ [])) (sym (eqb-true c 35 h));
}

pub tags_format : Format IsLowTag tags_text IsTagSet tags_goes tags_at
tags_format =
    viewed optional (maybe_format begins_tag (items_format tags_parts tags_lead (λ tag fits. fits) tag_at (tag_format IsLowTag low_is_local))
    (λ x fits. record { first = 35; others = path_text x.0 ++ more_spell 44 tag_text x.1; is = refl; test = refl }) tags_some)
    (record { to = tags_to; from = tags_from; spelled = tags_spelled; alike = tags_alike })
