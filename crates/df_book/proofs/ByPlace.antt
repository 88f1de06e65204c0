-- Entries in order of their places, as one comes or has less left.
use Rattle.std.proofs.Common.{◌≡◌, List, [], ◌∷◌, ◌++◌, Bool, true, false, cond, refl, ◌∙◌, ap}
use Rattle.std.specs.Prelude.{ℤ, pos, int_lt, string_bytes}
use Rattle.std.specs.Cmp.{IsTotalOrder, bool_cmp_total}
use Rattle.std.specs.List.{AllByRecursion}
use Rattle.std.specs.List.Sorted.{IsStrictlySortedBy}
use Rattle.std.specs.Map.{keys_of}
use Rattle.std.specs.BTreeMap.{insert_entry}
use Rattle.std.specs.declared.cmp.Ordering.{Ordering}
use Rattle.std.specs.declared.cmp.Ordering.TheVariants.{Less, Equal, Greater}
use Rattle.std.specs.Ordering.{is_eq, ordering_reverse, match_ordering}
use Rattle.std.proofs.lemmas.Cmp.{alike_right, int_cmp_total, nat_cmp_total, nat_list_cmp_total, on_total, then_total}
use Rattle.std.proofs.lemmas.Map.Keys.{sorted_head, sorted_tail}
use Rattle.df_book.specs.declared.place.Place.{Place}
use Rattle.df_book.specs.declared.place.Rest.{Rest}
use Rattle.df_book.specs.code.Places.{place_cmp}
use Rattle.df_book.specs.code.Trees.{IsByPlace, left_here, left_in, with_left}

pub places_total : IsTotalOrder place_cmp
places_total =
    then_total (on_total (λ (p : Place). string_bytes p.symbol) nat_list_cmp_total)
    (then_total (on_total (λ (p : Place). p.sell) bool_cmp_total) (then_total (on_total (λ (p : Place). p.rank) int_cmp_total) (on_total (λ (p : Place). p.arrival) nat_cmp_total)))

pub turned : (p q : Place) (o : Ordering) → place_cmp p q ≡ o → place_cmp q p ≡ ordering_reverse o
turned p q o h = places_total.antisymm q p ∙ ap ordering_reverse h

abbrev pub Entries : Type 0
Entries = List (Place × Rest)

-- each entry stands before the place, or behind it
abbrev pub AllBelow : Place → Entries → Type 0
AllBelow p es = AllByRecursion (λ q. place_cmp q p ≡ Less) (keys_of es)

abbrev pub AllAbove : Place → Entries → Type 0
AllAbove p es = AllByRecursion (λ q. place_cmp p q ≡ Less) (keys_of es)

-- what the order says of an entry and of those on its two sides
pub record Parted (l : Entries) (e : Place × Rest) (r : Entries) : Type 0 where
  pub left : IsByPlace l
  pub right : IsByPlace r
  pub below : AllBelow e.0 l
  pub above : AllAbove e.0 r

all_front : (P : Place → Type 0) (l m : Entries) → AllByRecursion P (keys_of (l ++ m)) → AllByRecursion P (keys_of l)
all_front P [] m a = tt
all_front P (x ∷ l) m a = (a.0, all_front P l m a.1)

all_middle : (P : Place → Type 0) (l : Entries) (e : Place × Rest) (r : Entries) → AllByRecursion P (keys_of (l ++ e ∷ r)) → P e.0
all_middle P [] e r a = a.0
all_middle P (x ∷ l) e r a = all_middle P l e r a.1

pub no_entries : IsByPlace []
unfolding IsStrictlySortedBy
no_entries = tt

first_entry : (e : Place × Rest) (es : Entries) → AllAbove e.0 es → IsByPlace es → IsByPlace (e ∷ es)
unfolding IsStrictlySortedBy
first_entry e es a s = (a, s)

pub parted : (l : Entries) (e : Place × Rest) (r : Entries) → IsByPlace (l ++ e ∷ r) → Parted l e r
parted [] e r s = record {
  left = no_entries;
  right = sorted_tail place_cmp e.0 (keys_of r) s;
  below = tt;
  above = sorted_head place_cmp e.0 (keys_of r) s;
}
parted (x ∷ l) e r s =
    let h = sorted_head place_cmp x.0 (keys_of (l ++ e ∷ r)) s in
    let t = parted l e r (sorted_tail place_cmp x.0 (keys_of (l ++ e ∷ r)) s) in
    record {
      left = first_entry x l (all_front (λ q. place_cmp x.0 q ≡ Less) l (e ∷ r) h) t.left;
      right = t.right;
      below = (all_middle (λ q. place_cmp x.0 q ≡ Less) l e r h, t.below);
      above = t.above;
    }

-- those before a place stand before a later one, and before an equal one
pub below_later : (p q : Place) (es : Entries) → AllBelow q es → place_cmp q p ≡ Less → AllBelow p es
below_later p q [] a h = tt
below_later p q (e ∷ es) a h = (places_total.trans e.0 q p a.0 h, below_later p q es a.1 h)

pub below_equal : (p q : Place) (es : Entries) → AllBelow q es → place_cmp p q ≡ Equal → AllBelow p es
below_equal p q [] a h = tt
below_equal p q (e ∷ es) a h = (alike_right places_total p q e.0 h ∙ a.0, below_equal p q es a.1 h)

-- those behind a place stand behind an earlier one
pub above_earlier : (p q : Place) (es : Entries) → AllAbove q es → place_cmp p q ≡ Less → AllAbove p es
above_earlier p q [] a h = tt
above_earlier p q (e ∷ es) a h = (places_total.trans p q e.0 h a.0, above_earlier p q es a.1 h)

-- ---- one more entry

put_past : (p : Place) (v : Rest) (l m : Entries) → AllBelow p l → insert_entry place_cmp (l ++ m) p v ≡ l ++ insert_entry place_cmp m p v
put_past p v [] m a = refl
put_past p v (x ∷ l) m a =
    ap (λ o. match_ordering o ((p, v) ∷ x ∷ (l ++ m)) ((x.0, v) ∷ (l ++ m)) (x ∷ insert_entry place_cmp (l ++ m) p v)) (turned x.0 p Less a.0)
    ∙ ap (λ es. x ∷ es) (put_past p v l m a.1)

pub put_left : (p : Place) (v : Rest) (l : Entries) (e : Place × Rest) (r : Entries) → place_cmp p e.0 ≡ Less →
    insert_entry place_cmp (l ++ e ∷ r) p v ≡ insert_entry place_cmp l p v ++ e ∷ r
put_left p v [] e r h = ap (λ o. match_ordering o ((p, v) ∷ e ∷ r) ((e.0, v) ∷ r) (e ∷ insert_entry place_cmp r p v)) h
put_left p v (x ∷ l) e r h = go (place_cmp p x.0) (put_left p v l e r h)
  where
    go : (o : Ordering) → insert_entry place_cmp (l ++ e ∷ r) p v ≡ insert_entry place_cmp l p v ++ e ∷ r →
        match_ordering o ((p, v) ∷ x ∷ (l ++ e ∷ r)) ((x.0, v) ∷ (l ++ e ∷ r)) (x ∷ insert_entry place_cmp (l ++ e ∷ r) p v)
        ≡ match_ordering o ((p, v) ∷ x ∷ l) ((x.0, v) ∷ l) (x ∷ insert_entry place_cmp l p v) ++ e ∷ r
    go Less ih = refl
    go Equal ih = refl
    go Greater ih = ap (λ es. x ∷ es) ih

pub put_here : (p : Place) (v : Rest) (l : Entries) (e : Place × Rest) (r : Entries) → place_cmp p e.0 ≡ Equal → IsByPlace (l ++ e ∷ r) →
    insert_entry place_cmp (l ++ e ∷ r) p v ≡ l ++ (e.0, v) ∷ r
put_here p v l e r h s =
    put_past p v l (e ∷ r) (below_equal p e.0 l (parted l e r s).below h)
    ∙ ap (λ o. l ++ match_ordering o ((p, v) ∷ e ∷ r) ((e.0, v) ∷ r) (e ∷ insert_entry place_cmp r p v)) h

pub put_right : (p : Place) (v : Rest) (l : Entries) (e : Place × Rest) (r : Entries) → place_cmp p e.0 ≡ Greater → IsByPlace (l ++ e ∷ r) →
    insert_entry place_cmp (l ++ e ∷ r) p v ≡ l ++ e ∷ insert_entry place_cmp r p v
put_right p v l e r h s =
    put_past p v l (e ∷ r) (below_later p e.0 l (parted l e r s).below (turned p e.0 Greater h))
    ∙ ap (λ o. l ++ match_ordering o ((p, v) ∷ e ∷ r) ((e.0, v) ∷ r) (e ∷ insert_entry place_cmp r p v)) h

put_above : (q p : Place) (v : Rest) (es : Entries) → place_cmp q p ≡ Less → AllAbove q es → AllAbove q (insert_entry place_cmp es p v)
put_above q p v [] h a = (h, tt)
put_above q p v (e ∷ es) h a = go (place_cmp p e.0) (put_above q p v es h a.1)
  where
    go : (o : Ordering) → AllAbove q (insert_entry place_cmp es p v) → AllAbove q (match_ordering o ((p, v) ∷ e ∷ es) ((e.0, v) ∷ es) (e ∷ insert_entry place_cmp es p v))
    go Less ih = (h, a)
    go Equal ih = a
    go Greater ih = (a.0, ih)

pub put_by_place : (p : Place) (v : Rest) (es : Entries) → IsByPlace es → IsByPlace (insert_entry place_cmp es p v)
put_by_place p v [] s = first_entry (p, v) [] tt s
put_by_place p v (e ∷ es) s = go (place_cmp p e.0) refl (sorted_head place_cmp e.0 (keys_of es) s) (sorted_tail place_cmp e.0 (keys_of es) s) (put_by_place p v es (sorted_tail place_cmp e.0 (keys_of es) s))
  where
    go : (o : Ordering) → place_cmp p e.0 ≡ o → AllAbove e.0 es → IsByPlace es → IsByPlace (insert_entry place_cmp es p v) →
        IsByPlace (match_ordering o ((p, v) ∷ e ∷ es) ((e.0, v) ∷ es) (e ∷ insert_entry place_cmp es p v))
    go Less h a t ih = first_entry (p, v) (e ∷ es) (h, above_earlier p e.0 es a h) s
    go Equal h a t ih = first_entry (e.0, v) es a t
    go Greater h a t ih = first_entry e (insert_entry place_cmp es p v) (put_above e.0 p v es (turned p e.0 Greater h) a) ih

-- ---- so much left of one entry

left_past : (p : Place) (left : ℤ) (l m : Entries) → AllBelow p l → left_in p left (l ++ m) ≡ l ++ left_in p left m
left_past p left [] m a = refl
left_past p left (x ∷ l) m a =
    ap (λ o. cond (is_eq o) (left_here left x (l ++ m)) (x ∷ left_in p left (l ++ m))) (turned x.0 p Less a.0)
    ∙ ap (λ es. x ∷ es) (left_past p left l m a.1)

left_none : (p : Place) (left : ℤ) (es : Entries) → AllAbove p es → left_in p left es ≡ es
left_none p left [] a = refl
left_none p left (x ∷ es) a =
    ap (λ o. cond (is_eq o) (left_here left x es) (x ∷ left_in p left es)) a.0 ∙ ap (λ es. x ∷ es) (left_none p left es a.1)

pub left_left : (p : Place) (left : ℤ) (l : Entries) (e : Place × Rest) (r : Entries) → place_cmp p e.0 ≡ Less → AllAbove p r →
    left_in p left (l ++ e ∷ r) ≡ left_in p left l ++ e ∷ r
left_left p left [] e r h a =
    ap (λ o. cond (is_eq o) (left_here left e r) (e ∷ left_in p left r)) h ∙ ap (λ es. e ∷ es) (left_none p left r a)
left_left p left (x ∷ l) e r h a = go (is_eq (place_cmp p x.0)) (int_lt (pos 0) left) (left_left p left l e r h a)
  where
    go : (b c : Bool) → left_in p left (l ++ e ∷ r) ≡ left_in p left l ++ e ∷ r →
        cond b (cond c (with_left left x ∷ (l ++ e ∷ r)) (l ++ e ∷ r)) (x ∷ left_in p left (l ++ e ∷ r))
        ≡ cond b (cond c (with_left left x ∷ l) l) (x ∷ left_in p left l) ++ e ∷ r
    go true true ih = refl
    go true false ih = refl
    go false c ih = ap (λ es. x ∷ es) ih

pub left_middle : (p : Place) (left : ℤ) (l : Entries) (e : Place × Rest) (r : Entries) → place_cmp p e.0 ≡ Equal → IsByPlace (l ++ e ∷ r) →
    left_in p left (l ++ e ∷ r) ≡ l ++ left_here left e r
left_middle p left l e r h s =
    left_past p left l (e ∷ r) (below_equal p e.0 l (parted l e r s).below h)
    ∙ ap (λ o. l ++ cond (is_eq o) (left_here left e r) (e ∷ left_in p left r)) h

pub left_right : (p : Place) (left : ℤ) (l : Entries) (e : Place × Rest) (r : Entries) → place_cmp p e.0 ≡ Greater → IsByPlace (l ++ e ∷ r) →
    left_in p left (l ++ e ∷ r) ≡ l ++ e ∷ left_in p left r
left_right p left l e r h s =
    left_past p left l (e ∷ r) (below_later p e.0 l (parted l e r s).below (turned p e.0 Greater h))
    ∙ ap (λ o. l ++ cond (is_eq o) (left_here left e r) (e ∷ left_in p left r)) h

left_above : (q p : Place) (left : ℤ) (es : Entries) → AllAbove q es → AllAbove q (left_in p left es)
left_above q p left [] a = tt
left_above q p left (e ∷ es) a = go (is_eq (place_cmp p e.0)) (int_lt (pos 0) left) (left_above q p left es a.1)
  where
    go : (b c : Bool) → AllAbove q (left_in p left es) → AllAbove q (cond b (cond c (with_left left e ∷ es) es) (e ∷ left_in p left es))
    go true true ih = a
    go true false ih = a.1
    go false c ih = (a.0, ih)

pub left_by_place : (p : Place) (left : ℤ) (es : Entries) → IsByPlace es → IsByPlace (left_in p left es)
left_by_place p left [] s = s
left_by_place p left (e ∷ es) s =
    go (is_eq (place_cmp p e.0)) (int_lt (pos 0) left) (sorted_head place_cmp e.0 (keys_of es) s) (sorted_tail place_cmp e.0 (keys_of es) s)
    (left_by_place p left es (sorted_tail place_cmp e.0 (keys_of es) s))
  where
    go : (b c : Bool) → AllAbove e.0 es → IsByPlace es → IsByPlace (left_in p left es) → IsByPlace (cond b (cond c (with_left left e ∷ es) es) (e ∷ left_in p left es))
    go true true a t ih = first_entry (with_left left e) es a t
    go true false a t ih = t
    go false c a t ih = first_entry e (left_in p left es) (left_above e.0 p left es a) ih
